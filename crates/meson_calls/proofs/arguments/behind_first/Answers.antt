use Rattle.meson_calls.proofs.Words.{is_some, length, ◌∙◌, sym, ap, ◌≤◌, arith, arg_view, value_without_name, rest, number_behind}
use Rattle.meson_calls.proofs.KeptArguments.{rest_found, rest_passed, number_found, kept_none}
use Rattle.meson_calls.proofs.arguments.behind_first.Goals as goal

pub returns-then-is_plain-clause-number : goal.returns-then-is_plain-clause-number
returns-then-is_plain-clause-number c = λ source.
    let some = ap (λ a. is_some (value_without_name (arg_view source a))) (sym c.index-args-i.is) ∙ sym (c.is_plain.ensures source) ∙ c.if-is_plain.true in
    let args = c.args.args.now in
    sym (ap (number_behind (length args)) (c.loop-i.invariant source) ∙ number_found source value_without_name args c.loop-i.i (length args) c.index-args-i.result c.loop-i-test.true some)

pub returns-then-is_plain-clause-others : goal.returns-then-is_plain-clause-others
returns-then-is_plain-clause-others c = λ source.
    let some = ap (λ a. is_some (value_without_name (arg_view source a))) (sym c.index-args-i.is) ∙ sym (c.is_plain.ensures source) ∙ c.if-is_plain.true in
    ap rest (c.loop-i.invariant source) ∙ rest_found source value_without_name c.args.args.now c.loop-i.i c.index-args-i.result c.loop-i-test.true some

pub loop-i-preserved : goal.loop-i-preserved
loop-i-preserved c = λ source.
    let none = ap (λ a. is_some (value_without_name (arg_view source a))) (sym c.index-args-i.is) ∙ sym (c.is_plain.ensures source) ∙ c.if-is_plain.false in
    c.loop-i.invariant source ∙ rest_passed source value_without_name c.args.args.now c.loop-i.i c.index-args-i.result c.loop-i-test.true none

pub returns-clause-number : goal.returns-clause-number
returns-clause-number c = λ source.
    let args = c.args.args.now in
    sym (ap (number_behind (length args)) (c.loop-i.invariant source ∙ kept_none source value_without_name args c.loop-i.i c.loop-i-test.false))

pub returns-clause-others : goal.returns-clause-others
returns-clause-others c = λ source.
    let args = c.args.args.now in
    let whole : length args ≤ length args = omega arith in
    ap rest (c.loop-i.invariant source ∙ kept_none source value_without_name args c.loop-i.i c.loop-i-test.false) ∙ sym (kept_none source value_without_name args (length args) whole)
