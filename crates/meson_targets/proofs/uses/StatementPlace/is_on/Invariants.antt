use Rattle.meson_targets.proofs.Words.{◌≡◌, [], ◌∷◌, ◌++◌, drop, goes_through}
use Rattle.meson_targets.proofs.uses.StatementPlace.is_on.Given as goal

-- what is left of the path goes through what is left of the block's
abbrev pub invariant-loop-i : goal.invariant-loop-i
invariant-loop-i l = goes_through (drop l.i l.block ++ l.self.number ∷ []) (drop l.i l.path) ≡ goes_through (l.block ++ l.self.number ∷ []) l.path
