use Rattle.meson_steps.proofs.Words.{◌≡◌, ◌++◌, drop, map, reverse, distinct, distinct_by}
use Rattle.meson_steps.proofs.names.distinct.Given as goal

abbrev pub invariant-loop-i : goal.invariant-loop-i
invariant-loop-i l = map (λ x. x.now) l.all.items ++ distinct_by (reverse (map (λ x. x.now) l.all.items)) (drop l.i l.names) ≡ distinct l.names
