use Rattle.std.proofs.Common.{◌≡◌}
use Rattle.meson_steps.specs.OrderedLists.{comment_in}
use Rattle.meson_steps.proofs.ordered_list.has_comment.Given as goal

abbrev pub invariant-loop-item : goal.invariant-loop-item
invariant-loop-item l = comment_in l.item-iterator ≡ comment_in l.initial.item-iterator
