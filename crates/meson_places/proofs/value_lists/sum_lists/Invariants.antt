use Rattle.std.proofs.Common.{◌≡◌, ◌+◌, ◌++◌, drop}
use Rattle.meson_syntax.specs.Tree.{operands_of}
use Rattle.meson_syntax.specs.View.{expr_view, operands_view}
use Rattle.meson_calls.specs.Project.{child}
use Rattle.meson_places.specs.ValueLists.{and_more, operand_lists, own_list}
use Rattle.meson_places.specs.inside.Found.{AreGoodLists, found_lists}
use Rattle.meson_places.proofs.value_lists.sum_lists.Given as goal

abbrev pub invariant-loop-i : goal.invariant-loop-i
invariant-loop-i l = record {
  lists : found_lists l.source l.lists.items ++ operand_lists l.place (l.i + 1) (operands_of (operands_view l.source (drop l.i l.rest)))
      ≡ and_more (own_list (child l.place 0) (expr_view l.source l.first)) (operand_lists l.place 1 (operands_of (operands_view l.source l.rest)));
  good : AreGoodLists l.source l.lists.items;
}
