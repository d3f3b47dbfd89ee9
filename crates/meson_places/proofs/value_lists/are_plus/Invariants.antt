use Rattle.std.proofs.Common.{◌≡◌, ℕ, List, drop}
use Rattle.meson_syntax.specs.Tree.{operands_of}
use Rattle.meson_syntax.specs.View.{operands_view}
use Rattle.meson_places.specs.ValueLists.{are_plus}
use Rattle.meson_places.proofs.value_lists.are_plus.Given as goal

abbrev pub invariant-loop-i : goal.invariant-loop-i
invariant-loop-i l = (source : List ℕ) → are_plus (operands_of (operands_view source (drop l.i l.rest))) ≡ are_plus (operands_of (operands_view source l.rest))
