use Rattle.meson_edit.proofs.Words.{◌∙◌, nat_le, ◌-◌, suc, refl, sym, ap, max}
use Rattle.meson_edit.proofs.Fitting.{one-more, both, first-fails, seen, told, element-fails, element-fits, all-fit}
use Rattle.meson_edit.proofs.DeepViews.{expr_deep, operand_deep, operands_deep, tail_deep, tails_deep, arg_deep, args_deep, deep_paren, deep_array}
use Rattle.meson_edit.proofs.DeepViews.{deep_dictionary, deep_call, deep_unary, deep_row, deep_postfix, deep_conditional, deep_operand, deep_method, deep_index}
use Rattle.meson_edit.proofs.DeepViews.{deep_list, deep_plain, deep_named, deep_pair}
use Rattle.meson_edit.proofs.depth.+expressions.Goals as goal

-- ---- elements of lists

pub arg_fits-returns-in-Plain : goal.arg_fits-returns-in-Plain
arg_fits-returns-in-Plain t c = λ source. seen (arg_deep source) _ _ _ c.args.room _ c.in-Plain.is (deep_plain source c.in-Plain.value) (c.expr_fits.ensures source)

pub arg_fits-returns-in-Named : goal.arg_fits-returns-in-Named
arg_fits-returns-in-Named t c = λ source.
    seen (arg_deep source) _ _ _ c.args.room _ c.in-Named.is (deep_named source c.in-Named.span c.in-Named.name c.in-Named.value) (c.expr_fits-in-Named.ensures source)

pub arg_fits-returns-then-expr_fits : goal.arg_fits-returns-then-expr_fits
arg_fits-returns-then-expr_fits t c = λ source.
    let first = told (expr_deep source) _ _ c.args.room _ (c.expr_fits-in-Pair.ensures source) c.get.ensures in
    let second = told (expr_deep source) _ _ c.args.room _ (c.expr_fits-then-expr_fits.ensures source) c.get-then-expr_fits.ensures in
    seen (arg_deep source) _ _ _ c.args.room _ c.in-Pair.is (deep_pair source c.in-Pair.span c.in-Pair.key c.in-Pair.value) (both _ _ c.args.room _ _ first c.if-expr_fits.true second)

pub arg_fits-returns-else-expr_fits : goal.arg_fits-returns-else-expr_fits
arg_fits-returns-else-expr_fits t c = λ source.
    let first = told (expr_deep source) _ _ c.args.room _ (c.expr_fits-in-Pair.ensures source) c.get.ensures in
    seen (arg_deep source) _ _ _ c.args.room _ c.in-Pair.is (deep_pair source c.in-Pair.span c.in-Pair.key c.in-Pair.value)
    (first-fails _ (expr_deep source c.in-Pair.value) c.args.room _ first c.if-expr_fits.false)

pub args_fit-returns-then-not-arg_fits : goal.args_fit-returns-then-not-arg_fits
args_fit-returns-then-not-arg_fits t c = λ source.
    element-fails (args_deep source) (arg_deep source) refl (λ x xs. refl) c.args.args.now c.loop-i.i c.index-args-i.result c.args.room c.arg_fits.result c.loop-i-test.true c.index-args-i.is
    (c.arg_fits.ensures source) c.if-not-arg_fits.true (c.loop-i.invariant source)

pub args_fit-loop-i-preserved : goal.args_fit-loop-i-preserved
args_fit-loop-i-preserved t c = λ source.
    element-fits (args_deep source) (arg_deep source) refl (λ x xs. refl) c.args.args.now c.loop-i.i c.index-args-i.result c.args.room c.arg_fits.result c.loop-i-test.true c.index-args-i.is
    (c.arg_fits.ensures source) c.if-not-arg_fits.false (c.loop-i.invariant source)

pub args_fit-returns : goal.args_fit-returns
args_fit-returns t c = λ source. all-fit (args_deep source) (arg_deep source) refl (λ x xs. refl) c.args.args.now c.loop-i.i c.args.room c.loop-i-test.false (c.loop-i.invariant source)

pub list_fits-returns-then-room-gt0 : goal.list_fits-returns-then-room-gt0
list_fits-returns-then-room-gt0 t c = λ source.
    let inside = told (args_deep source) _ _ (c.args.room - 1) _ (c.args_fit.ensures source) c.get.ensures in
    one-more _ c.args.room _ c.if-room-gt0.true inside ∙ ap (λ n. nat_le n c.args.room) (sym (deep_list source c.args.list.now))

-- ---- operands and tails

pub operands_fit-returns-then-not-expr_fits : goal.operands_fit-returns-then-not-expr_fits
operands_fit-returns-then-not-expr_fits t c = λ source.
    element-fails (operands_deep source) (operand_deep source) refl (λ x xs. refl) c.args.operands.now c.loop-i.i c.index-operands-i.result c.args.room c.expr_fits.result c.loop-i-test.true c.index-operands-i.is
    (c.expr_fits.ensures source ∙ ap (λ n. nat_le n c.args.room) (sym (deep_operand source _)) ∙ ap (λ o. nat_le (operand_deep source o) c.args.room) (sym c.index-operands-i.is)) c.if-not-expr_fits.true (c.loop-i.invariant source)

pub operands_fit-loop-i-preserved : goal.operands_fit-loop-i-preserved
operands_fit-loop-i-preserved t c = λ source.
    element-fits (operands_deep source) (operand_deep source) refl (λ x xs. refl) c.args.operands.now c.loop-i.i c.index-operands-i.result c.args.room c.expr_fits.result c.loop-i-test.true c.index-operands-i.is
    (c.expr_fits.ensures source ∙ ap (λ n. nat_le n c.args.room) (sym (deep_operand source _)) ∙ ap (λ o. nat_le (operand_deep source o) c.args.room) (sym c.index-operands-i.is)) c.if-not-expr_fits.false (c.loop-i.invariant source)

pub operands_fit-returns : goal.operands_fit-returns
operands_fit-returns t c = λ source. all-fit (operands_deep source) (operand_deep source) refl (λ x xs. refl) c.args.operands.now c.loop-i.i c.args.room c.loop-i-test.false (c.loop-i.invariant source)

pub tails_fit-returns-then-not-tail_fits : goal.tails_fit-returns-then-not-tail_fits
tails_fit-returns-then-not-tail_fits t c = λ source.
    element-fails (tails_deep source) (tail_deep source) refl (λ x xs. refl) c.args.tails.now c.loop-i.i c.index-tails-i.result c.args.room c.tail_fits.result c.loop-i-test.true c.index-tails-i.is
    (c.tail_fits.ensures source) c.if-not-tail_fits.true (c.loop-i.invariant source)

pub tails_fit-loop-i-preserved : goal.tails_fit-loop-i-preserved
tails_fit-loop-i-preserved t c = λ source.
    element-fits (tails_deep source) (tail_deep source) refl (λ x xs. refl) c.args.tails.now c.loop-i.i c.index-tails-i.result c.args.room c.tail_fits.result c.loop-i-test.true c.index-tails-i.is
    (c.tail_fits.ensures source) c.if-not-tail_fits.false (c.loop-i.invariant source)

pub tails_fit-returns : goal.tails_fit-returns
tails_fit-returns t c = λ source. all-fit (tails_deep source) (tail_deep source) refl (λ x xs. refl) c.args.tails.now c.loop-i.i c.args.room c.loop-i-test.false (c.loop-i.invariant source)

pub tail_fits-returns-in-Method : goal.tail_fits-returns-in-Method
tail_fits-returns-in-Method t c = λ source.
    seen (tail_deep source) _ _ _ c.args.room _ c.in-Method.is (deep_method source c.in-Method.span c.in-Method.name c.in-Method.arguments) (c.list_fits.ensures source)

pub tail_fits-returns-then-room-gt0 : goal.tail_fits-returns-then-room-gt0
tail_fits-returns-then-room-gt0 t c = λ source.
    seen (tail_deep source) _ _ _ c.args.room _ c.in-Index.is (deep_index source c.in-Index.span c.in-Index.index) (one-more _ c.args.room _ c.if-room-gt0.true (c.expr_fits.ensures source))

-- ---- expressions

pub expr_fits-returns-then-room-gt0 : goal.expr_fits-returns-then-room-gt0
expr_fits-returns-then-room-gt0 t c = λ source.
    let inside = told (expr_deep source) _ _ (c.args.room - 1) _ (c.expr_fits.ensures source) c.get.ensures in
    seen (expr_deep source) _ _ _ c.args.room _ c.in-Paren.is (deep_paren source c.in-Paren.span c.in-Paren.inside) (one-more _ c.args.room _ c.if-room-gt0.true inside)

pub expr_fits-returns-in-Array : goal.expr_fits-returns-in-Array
expr_fits-returns-in-Array t c = λ source. seen (expr_deep source) _ _ _ c.args.room _ c.in-Array.is (deep_array source c.in-Array.list) (c.list_fits.ensures source)

pub expr_fits-returns-in-Dictionary : goal.expr_fits-returns-in-Dictionary
expr_fits-returns-in-Dictionary t c = λ source. seen (expr_deep source) _ _ _ c.args.room _ c.in-Dictionary.is (deep_dictionary source c.in-Dictionary.list) (c.list_fits-in-Dictionary.ensures source)

pub expr_fits-returns-in-Call : goal.expr_fits-returns-in-Call
expr_fits-returns-in-Call t c = λ source.
    seen (expr_deep source) _ _ _ c.args.room _ c.in-Call.is (deep_call source c.in-Call.span c.in-Call.name c.in-Call.arguments) (c.list_fits-in-Call.ensures source)

pub expr_fits-returns-in-Unary : goal.expr_fits-returns-in-Unary
expr_fits-returns-in-Unary t c = λ source.
    let inside = told (expr_deep source) _ _ c.args.room _ (c.expr_fits-in-Unary.ensures source) c.get-in-Unary.ensures in
    seen (expr_deep source) _ _ _ c.args.room _ c.in-Unary.is (deep_unary source c.in-Unary.span c.in-Unary.operator c.in-Unary.operand) inside

pub expr_fits-returns-then-expr_fits : goal.expr_fits-returns-then-expr_fits
expr_fits-returns-then-expr_fits t c = λ source.
    let first = told (expr_deep source) _ _ c.args.room _ (c.expr_fits-in-Row.ensures source) c.get-in-Row.ensures in
    let rest = told (operands_deep source) _ _ c.args.room _ (c.operands_fit.ensures source) c.get-then-expr_fits.ensures in
    seen (expr_deep source) _ _ _ c.args.room _ c.in-Row.is (deep_row source c.in-Row.span c.in-Row.first c.in-Row.rest) (both _ _ c.args.room _ _ first c.if-expr_fits.true rest)

pub expr_fits-returns-else-expr_fits : goal.expr_fits-returns-else-expr_fits
expr_fits-returns-else-expr_fits t c = λ source.
    let first = told (expr_deep source) _ _ c.args.room _ (c.expr_fits-in-Row.ensures source) c.get-in-Row.ensures in
    seen (expr_deep source) _ _ _ c.args.room _ c.in-Row.is (deep_row source c.in-Row.span c.in-Row.first c.in-Row.rest)
    (first-fails _ (operands_deep source c.in-Row.rest) c.args.room _ first c.if-expr_fits.false)

pub expr_fits-returns-then-expr_fits-2 : goal.expr_fits-returns-then-expr_fits-2
expr_fits-returns-then-expr_fits-2 t c = λ source.
    let base = told (expr_deep source) _ _ c.args.room _ (c.expr_fits-in-Postfix.ensures source) c.get-in-Postfix.ensures in
    let tails = told (tails_deep source) _ _ c.args.room _ (c.tails_fit.ensures source) c.get-then-expr_fits-2.ensures in
    seen (expr_deep source) _ _ _ c.args.room _ c.in-Postfix.is (deep_postfix source c.in-Postfix.span c.in-Postfix.base c.in-Postfix.tails) (both _ _ c.args.room _ _ base c.if-expr_fits-2.true tails)

pub expr_fits-returns-else-expr_fits-2 : goal.expr_fits-returns-else-expr_fits-2
expr_fits-returns-else-expr_fits-2 t c = λ source.
    let base = told (expr_deep source) _ _ c.args.room _ (c.expr_fits-in-Postfix.ensures source) c.get-in-Postfix.ensures in
    seen (expr_deep source) _ _ _ c.args.room _ c.in-Postfix.is (deep_postfix source c.in-Postfix.span c.in-Postfix.base c.in-Postfix.tails)
    (first-fails _ (tails_deep source c.in-Postfix.tails) c.args.room _ base c.if-expr_fits-2.false)

pub expr_fits-returns-then-expr_fits-4 : goal.expr_fits-returns-then-expr_fits-4
expr_fits-returns-then-expr_fits-4 t c = λ source.
    let k = c.in-Conditional in
    let asked = told (expr_deep source) _ _ c.args.room _ (c.expr_fits-then-room-gt0-2.ensures source) c.get-then-room-gt0-2.ensures in
    let chosen = told (expr_deep source) _ _ (c.args.room - 1) _ (c.expr_fits-then-expr_fits-3.ensures source) c.get-then-expr_fits-3.ensures in
    let other = told (expr_deep source) _ _ (c.args.room - 1) _ (c.expr_fits-then-expr_fits-4.ensures source) c.get-then-expr_fits-4.ensures in
    let answers = one-more _ c.args.room _ c.if-room-gt0-2.true (both _ _ (c.args.room - 1) _ _ chosen c.if-expr_fits-4.true other) in
    seen (expr_deep source) _ _ _ c.args.room _ k.is (deep_conditional source k.span k.condition k.yes k.no) (both _ _ c.args.room _ _ asked c.if-expr_fits-3.true answers)

pub expr_fits-returns-else-expr_fits-4 : goal.expr_fits-returns-else-expr_fits-4
expr_fits-returns-else-expr_fits-4 t c = λ source.
    let k = c.in-Conditional in
    let asked = told (expr_deep source) _ _ c.args.room _ (c.expr_fits-then-room-gt0-2.ensures source) c.get-then-room-gt0-2.ensures in
    let chosen = told (expr_deep source) _ _ (c.args.room - 1) _ (c.expr_fits-then-expr_fits-3.ensures source) c.get-then-expr_fits-3.ensures in
    let answers = one-more _ c.args.room _ c.if-room-gt0-2.true (first-fails _ (expr_deep source k.no) (c.args.room - 1) _ chosen c.if-expr_fits-4.false) in
    seen (expr_deep source) _ _ _ c.args.room _ k.is (deep_conditional source k.span k.condition k.yes k.no) (both _ _ c.args.room _ _ asked c.if-expr_fits-3.true answers)

pub expr_fits-returns-else-expr_fits-3 : goal.expr_fits-returns-else-expr_fits-3
expr_fits-returns-else-expr_fits-3 t c = λ source.
    let k = c.in-Conditional in
    let asked = told (expr_deep source) _ _ c.args.room _ (c.expr_fits-then-room-gt0-2.ensures source) c.get-then-room-gt0-2.ensures in
    seen (expr_deep source) _ _ _ c.args.room _ k.is (deep_conditional source k.span k.condition k.yes k.no)
    (first-fails _ (suc (max (expr_deep source k.yes) (expr_deep source k.no))) c.args.room _ asked c.if-expr_fits-3.false)
