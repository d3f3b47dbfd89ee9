use Rattle.std.proofs.Common.{◌≡◌, ℕ, List, drop}
use Rattle.meson_syntax.specs.Tree.{operands_of}
use Rattle.meson_syntax.specs.View.{expr_view, operands_view}
use Rattle.meson_following.specs.Names.{last_of}
use Rattle.meson_following.proofs.names.last_of.Given as goal

abbrev pub invariant-loop-i : goal.invariant-loop-i
invariant-loop-i l = (source : List ℕ) → last_of (expr_view source l.last) (operands_of (operands_view source (drop l.i l.rest))) ≡ last_of (expr_view source l.first) (operands_of (operands_view source l.rest))
