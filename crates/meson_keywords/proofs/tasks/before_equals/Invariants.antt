use Rattle.meson_keywords.proofs.Words.{◌≡◌, ◌++◌, drop, take, option_map, before_equals}
use Rattle.meson_keywords.proofs.tasks.before_equals.Given as goal

abbrev pub invariant-loop-i : goal.invariant-loop-i
invariant-loop-i l = before_equals l.text ≡ option_map (λ front. take l.i l.text ++ front) (before_equals (drop l.i l.text))
