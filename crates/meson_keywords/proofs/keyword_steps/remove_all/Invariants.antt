use Rattle.meson_keywords.proofs.Words.{◌≡◌, ◌++◌, drop, map, Some, bare, removed_from}
use Rattle.meson_keywords.proofs.keyword_steps.remove_all.Given as goal

abbrev pub invariant-loop-i : goal.invariant-loop-i
invariant-loop-i l =
    map Some l.steps.items ++ map bare (removed_from l.list l.i (drop l.i l.numbers)) ≡ map Some l.initial.steps.items ++ map bare (removed_from l.list 0 l.numbers)
