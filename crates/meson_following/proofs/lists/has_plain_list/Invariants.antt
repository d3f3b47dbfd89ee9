use Rattle.std.proofs.Common.{◌≡◌, drop}
use Rattle.meson_syntax.specs.Tree.{operands_of}
use Rattle.meson_syntax.specs.View.{operands_view}
use Rattle.meson_following.specs.Lists.{has_plain_list}
use Rattle.meson_following.proofs.lists.has_plain_list.Given as goal

abbrev pub invariant-loop-operand : goal.invariant-loop-operand
invariant-loop-operand l =
    has_plain_list (operands_of (operands_view l.source (drop l.operand-index l.rest))) ≡ has_plain_list (operands_of (operands_view l.source l.rest))
