use Rattle.meson_calls.proofs.Words.{◌∙◌, sym, ap, arg_view, value_without_name}
use Rattle.meson_calls.proofs.FirstArguments.{first_left, first_of_list, first_skipped, first_found, first_ended}
use Rattle.meson_calls.proofs.roles.first_argument.Goals as goal

pub returns-in-Some : goal.returns-in-Some
returns-in-Some c = λ source function.
    let args = c.get-args.result.now in
    let is = ap (λ x. value_without_name (arg_view source x)) (sym c.index-args-i.is) ∙ c.in-Some.ensures source in
    first_of_list source function c.args.arguments.now ∙ sym (ap (first_left source 0) c.get-args.ensures) ∙ sym (c.loop-i.invariant source)
    ∙ first_found source args c.loop-i.i c.index-args-i.result _ c.loop-i-test.true is

pub loop-i-preserved : goal.loop-i-preserved
loop-i-preserved c = λ source.
    let args = c.get-args.result.now in
    let is = ap (λ x. value_without_name (arg_view source x)) (sym c.index-args-i.is) ∙ c.in_default.ensures source in
    first_skipped source args c.loop-i.i c.index-args-i.result c.loop-i-test.true is ∙ c.loop-i.invariant source

pub returns : goal.returns
returns c = λ source function.
    first_of_list source function c.args.arguments.now ∙ sym (ap (first_left source 0) c.get-args.ensures) ∙ sym (c.loop-i.invariant source)
    ∙ first_ended source c.get-args.result.now c.loop-i.i c.loop-i-test.false
