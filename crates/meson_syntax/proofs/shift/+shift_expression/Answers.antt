use Rattle.std.proofs.Common.{rules, ◌≡◌, ◌<◌, map, length, ap, ◌∙◌, arith}
use denote.Param.Weighed.{at_most}
use Rattle.meson_syntax.proofs.tree.Arg.TheLaws as args
use Rattle.meson_syntax.proofs.tree.Operand.TheLaws as operands
use Rattle.meson_syntax.proofs.tree.Tail.TheLaws as tails
use Rattle.meson_syntax.specs.Furthest.{furthest_arg, furthest_operand, furthest_tail}
use Rattle.meson_syntax.specs.MovedCode.{moved_arg, moved_expr, moved_list, moved_operand, moved_tail}
use Rattle.meson_syntax.specs.Moving.{span_by, border_by}
use Rattle.meson_syntax.proofs.InPlace.{at_most_greatest, next_exchanged}
use Rattle.meson_syntax.proofs.Moved.{written_back, moved_paren, moved_call, moved_row, moved_postfix, moved_conditional, moved_named, moved_pair, moved_method, moved_index}
use Rattle.meson_syntax.proofs.shift.+shift_expression.Goals as goal

-- ---- expressions

pub shift_expr-returns-in-Paren : goal.shift_expr-returns-in-Paren
shift_expr-returns-in-Paren t c =
    let g = border_by c.args.by in
    moved_paren g c.args.expr.now c.in-Paren.span _ c.in-Paren.inside _ c.in-Paren.is
    (c.shift-in-Paren.ensures ∙ ap (span_by g) c.in-Paren.span-is)
    (c.shift_expr.ensures ∙ ap (moved_expr g) (c.get_mut.ensures.value ∙ c.in-Paren.inside-is))

pub shift_expr-returns-in-Call : goal.shift_expr-returns-in-Call
shift_expr-returns-in-Call t c =
    let g = border_by c.args.by in
    moved_call g c.args.expr.now c.in-Call.span _ c.in-Call.name _ c.in-Call.arguments _ c.in-Call.is
    (c.shift-in-Call.ensures ∙ ap (span_by g) c.in-Call.span-is)
    (c.shift-in-Call-2.ensures ∙ ap (span_by g) c.in-Call.name-is)
    (c.shift_list-in-Call.ensures ∙ ap (moved_list g) c.in-Call.arguments-is)

pub shift_expr-returns-in-Row : goal.shift_expr-returns-in-Row
shift_expr-returns-in-Row t c =
    let g = border_by c.args.by in
    moved_row g c.args.expr.now c.in-Row.span _ c.in-Row.first _ c.in-Row.rest _ c.in-Row.is
    (c.shift-in-Row.ensures ∙ ap (span_by g) c.in-Row.span-is)
    (c.shift_expr-in-Row.ensures ∙ ap (moved_expr g) (c.get_mut-in-Row.ensures.value ∙ c.in-Row.first-is))
    (written_back (moved_operand g) _ c.shift_operands.new.operands (c.shift_operands.ensures ∙ ap (map (moved_operand g)) c.get_mut-in-Row-2.ensures.value)
    ∙ ap (map (moved_operand g)) c.in-Row.rest-is)

pub shift_expr-returns-in-Postfix : goal.shift_expr-returns-in-Postfix
shift_expr-returns-in-Postfix t c =
    let g = border_by c.args.by in
    moved_postfix g c.args.expr.now c.in-Postfix.span _ c.in-Postfix.base _ c.in-Postfix.tails _ c.in-Postfix.is
    (c.shift-in-Postfix.ensures ∙ ap (span_by g) c.in-Postfix.span-is)
    (c.shift_expr-in-Postfix.ensures ∙ ap (moved_expr g) (c.get_mut-in-Postfix.ensures.value ∙ c.in-Postfix.base-is))
    (written_back (moved_tail g) _ c.shift_tails.new.tails (c.shift_tails.ensures ∙ ap (map (moved_tail g)) c.get_mut-in-Postfix-2.ensures.value)
    ∙ ap (map (moved_tail g)) c.in-Postfix.tails-is)

pub shift_expr-returns-in-Conditional : goal.shift_expr-returns-in-Conditional
shift_expr-returns-in-Conditional t c =
    let g = border_by c.args.by in
    moved_conditional g c.args.expr.now c.in-Conditional.span _ c.in-Conditional.condition _ c.in-Conditional.yes _ c.in-Conditional.no _ c.in-Conditional.is
    (c.shift-in-Conditional.ensures ∙ ap (span_by g) c.in-Conditional.span-is)
    (c.shift_expr-in-Conditional.ensures ∙ ap (moved_expr g) (c.get_mut-in-Conditional.ensures.value ∙ c.in-Conditional.condition-is))
    (c.shift_expr-in-Conditional-2.ensures ∙ ap (moved_expr g) (c.get_mut-in-Conditional-2.ensures.value ∙ c.in-Conditional.yes-is))
    (c.shift_expr-in-Conditional-3.ensures ∙ ap (moved_expr g) (c.get_mut-in-Conditional-3.ensures.value ∙ c.in-Conditional.no-is))

-- ---- elements and tails

pub shift_arg-returns-in-Named : goal.shift_arg-returns-in-Named
shift_arg-returns-in-Named t c =
    let g = border_by c.args.by in
    moved_named g c.args.arg.now c.in-Named.span _ c.in-Named.name _ c.in-Named.value _ c.in-Named.is
    (c.shift.ensures ∙ ap (span_by g) c.in-Named.span-is)
    (c.shift-in-Named.ensures ∙ ap (span_by g) c.in-Named.name-is)
    (c.shift_expr-in-Named.ensures ∙ ap (moved_expr g) c.in-Named.value-is)

pub shift_arg-returns-in-Pair : goal.shift_arg-returns-in-Pair
shift_arg-returns-in-Pair t c =
    let g = border_by c.args.by in
    moved_pair g c.args.arg.now c.in-Pair.span _ c.in-Pair.key _ c.in-Pair.value _ c.in-Pair.is
    (c.shift-in-Pair.ensures ∙ ap (span_by g) c.in-Pair.span-is)
    (c.shift_expr-in-Pair.ensures ∙ ap (moved_expr g) (c.get_mut.ensures.value ∙ c.in-Pair.key-is))
    (c.shift_expr-in-Pair-2.ensures ∙ ap (moved_expr g) (c.get_mut-in-Pair.ensures.value ∙ c.in-Pair.value-is))

pub shift_tail-returns-in-Method : goal.shift_tail-returns-in-Method
shift_tail-returns-in-Method t c =
    let g = border_by c.args.by in
    moved_method g c.args.tail.now c.in-Method.span _ c.in-Method.name _ c.in-Method.arguments _ c.in-Method.is
    (c.shift.ensures ∙ ap (span_by g) c.in-Method.span-is)
    (c.shift-in-Method.ensures ∙ ap (span_by g) c.in-Method.name-is)
    (c.shift_list.ensures ∙ ap (moved_list g) c.in-Method.arguments-is)

pub shift_tail-returns-in-Index : goal.shift_tail-returns-in-Index
shift_tail-returns-in-Index t c =
    let g = border_by c.args.by in
    moved_index g c.args.tail.now c.in-Index.span _ c.in-Index.index _ c.in-Index.is
    (c.shift-in-Index.ensures ∙ ap (span_by g) c.in-Index.span-is)
    (c.shift_expr.ensures ∙ ap (moved_expr g) c.in-Index.index-is)

-- ---- lists

pub shift_args-shift_arg-requires : goal.shift_args-shift_arg-requires
shift_args-shift_arg-requires t c =
    let list = c.args.args.now in
    let i = c.loop-i.i in
    let d = c.index-args-i.result in
    let here = c.loop-i.invariant.0.1 i d (omega arith) in
    let within : i < length list = search rules in
    let deep = at_most args.the_size list i d within in
    let size = ap args.the_size here in
    let far = at_most_greatest furthest_arg list c.loop-i.args i d within here in
    (omega (arith, deep, size, c.decreases), omega (arith, far, c.requires))

pub shift_args-loop-i-preserved : goal.shift_args-loop-i-preserved
shift_args-loop-i-preserved t c =
    let list = c.args.args.now in
    let i = c.loop-i.i in
    let within : i < length list = search rules in
    let as_many : length c.loop-i.args ≡ length list = search rules in
    let move = moved_arg (border_by c.args.by) in
    (search rules, next_exchanged move list c.loop-i.args i c.index-args-i.result _ within as_many c.loop-i.invariant.1 c.shift_arg.ensures)

pub shift_operands-shift_operand-requires : goal.shift_operands-shift_operand-requires
shift_operands-shift_operand-requires t c =
    let list = c.args.operands.now in
    let i = c.loop-i.i in
    let d = c.index-operands-i.result in
    let here = c.loop-i.invariant.0.1 i d (omega arith) in
    let within : i < length list = search rules in
    let deep = at_most operands.the_size list i d within in
    let size = ap operands.the_size here in
    let far = at_most_greatest furthest_operand list c.loop-i.operands i d within here in
    (omega (arith, deep, size, c.decreases), omega (arith, far, c.requires))

pub shift_operands-loop-i-preserved : goal.shift_operands-loop-i-preserved
shift_operands-loop-i-preserved t c =
    let list = c.args.operands.now in
    let i = c.loop-i.i in
    let within : i < length list = search rules in
    let as_many : length c.loop-i.operands ≡ length list = search rules in
    let move = moved_operand (border_by c.args.by) in
    (search rules, next_exchanged move list c.loop-i.operands i c.index-operands-i.result _ within as_many c.loop-i.invariant.1 c.shift_operand.ensures)

pub shift_tails-shift_tail-requires : goal.shift_tails-shift_tail-requires
shift_tails-shift_tail-requires t c =
    let list = c.args.tails.now in
    let i = c.loop-i.i in
    let d = c.index-tails-i.result in
    let here = c.loop-i.invariant.0.1 i d (omega arith) in
    let within : i < length list = search rules in
    let deep = at_most tails.the_size list i d within in
    let size = ap tails.the_size here in
    let far = at_most_greatest furthest_tail list c.loop-i.tails i d within here in
    (omega (arith, deep, size, c.decreases), omega (arith, far, c.requires))

pub shift_tails-loop-i-preserved : goal.shift_tails-loop-i-preserved
shift_tails-loop-i-preserved t c =
    let list = c.args.tails.now in
    let i = c.loop-i.i in
    let within : i < length list = search rules in
    let as_many : length c.loop-i.tails ≡ length list = search rules in
    let move = moved_tail (border_by c.args.by) in
    (search rules, next_exchanged move list c.loop-i.tails i c.index-tails-i.result _ within as_many c.loop-i.invariant.1 c.shift_tail.ensures)
