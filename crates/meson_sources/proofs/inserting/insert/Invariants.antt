use Rattle.meson_sources.proofs.inserting.insert.Given as goal
use Rattle.meson_sources.proofs.Words.{drop, map, Some, ◌++◌, ◌+◌, ◌≡◌, bare, insertion_steps}

abbrev pub invariant-loop-i : goal.invariant-loop-i
invariant-loop-i l =
    map Some l.steps.items ++ map bare (insertion_steps l.list (l.from + l.i) (map (λ x. x.now) (drop l.i l.names)))
    ≡ map Some l.initial.steps.items ++ map bare (insertion_steps l.list l.from (map (λ x. x.now) l.names))
