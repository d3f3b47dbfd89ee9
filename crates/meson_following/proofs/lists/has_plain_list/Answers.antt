use Rattle.std.proofs.Common.{sym, ap, ◌∙◌}
use Rattle.std.proofs.lemmas.List.{at_drop_all}
use Rattle.meson_syntax.specs.Tree.{operands_of}
use Rattle.meson_syntax.specs.View.{operands_view}
use Rattle.meson_following.specs.Lists.{has_plain_list}
use Rattle.meson_following.proofs.Asking.{plain_found, plain_passed}
use Rattle.meson_following.proofs.lists.has_plain_list.Goals as goal

pub returns-then-is_plain_list : goal.returns-then-is_plain_list
returns-then-is_plain_list c =
    plain_found c.args.source.now c.args.rest.now c.loop-operand.operand-index c.operand-item.result _ c.operand-item.is c.loop-operand-test.true
    (sym c.is_plain_list.ensures ∙ c.if-is_plain_list.true) c.loop-operand.invariant

pub loop-operand-preserved : goal.loop-operand-preserved
loop-operand-preserved c =
    plain_passed c.args.source.now c.args.rest.now c.loop-operand.operand-index c.operand-item.result _ c.operand-item.is c.loop-operand-test.true
    (sym c.is_plain_list.ensures ∙ c.if-is_plain_list.false) c.loop-operand.invariant

pub returns : goal.returns
returns c =
    sym (sym c.loop-operand.invariant
    ∙ at_drop_all (λ os. has_plain_list (operands_of (operands_view c.args.source.now os))) c.args.rest.now c.loop-operand.operand-index c.loop-operand-test.false)
