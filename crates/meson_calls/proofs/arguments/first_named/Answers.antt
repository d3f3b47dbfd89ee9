use Rattle.meson_calls.proofs.Words.{is_some, ◌∙◌, sym, ap, arg_view, value_with_name}
use Rattle.meson_calls.proofs.KeptArguments.{rest_passed, kept_none}
use Rattle.meson_calls.proofs.FirstNamed.{first_is}
use Rattle.meson_calls.proofs.arguments.first_named.Goals as goal

pub returns-then-has_name : goal.returns-then-has_name
returns-then-has_name c =
    let source = c.args.source.now in
    let key = c.args.key.now in
    let some = ap (λ a. is_some (value_with_name key (arg_view source a))) (sym c.index-args-i.is) ∙ sym c.has_name.ensures ∙ c.if-has_name.true in
    first_is source key c.args.args.now c.loop-i.i c.index-args-i.result c.loop-i-test.true some c.loop-i.invariant

pub loop-i-preserved : goal.loop-i-preserved
loop-i-preserved c =
    let source = c.args.source.now in
    let key = c.args.key.now in
    let none = ap (λ a. is_some (value_with_name key (arg_view source a))) (sym c.index-args-i.is) ∙ sym c.has_name.ensures ∙ c.if-has_name.false in
    c.loop-i.invariant ∙ rest_passed source (value_with_name key) c.args.args.now c.loop-i.i c.index-args-i.result c.loop-i-test.true none

pub returns : goal.returns
returns c = c.loop-i.invariant ∙ kept_none c.args.source.now (value_with_name c.args.key.now) c.args.args.now c.loop-i.i c.loop-i-test.false
