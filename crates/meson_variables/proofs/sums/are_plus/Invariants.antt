use Rattle.meson_variables.proofs.Words.{◌≡◌, ℕ, List, drop, operands_of, operands_view, are_plus}
use Rattle.meson_variables.proofs.sums.are_plus.Given as goal

abbrev pub invariant-loop-i : goal.invariant-loop-i
invariant-loop-i l = (source : List ℕ) → are_plus (operands_of (operands_view source (drop l.i l.rest))) ≡ are_plus (operands_of (operands_view source l.rest))
