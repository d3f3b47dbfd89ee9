use Rattle.std.proofs.Common.{◌∙◌, sym, ap}
use Rattle.std.specs.Prelude.{[], option_map, string_bytes}
use Rattle.std.proofs.lemmas.Result.{IfOk-weaker}
use Rattle.meson_syntax.specs.View.{expr_view}
use Rattle.meson_calls.proofs.GoodLiterals.{first_argument_good}
use Rattle.meson_following.specs.Names.{exactly, fit, naming_by, naming_of}
use Rattle.meson_following.proofs.NameParts.{any_fits}
use Rattle.meson_following.proofs.names.fit_of.Goals as goal

pub literal-requires : goal.literal-requires
literal-requires c = first_argument_good [] _ _ (c.in-Some.ensures c.args.source.now []) c.requires

pub fit_computed-requires : goal.fit_computed-requires
fit_computed-requires c = first_argument_good [] _ _ (c.in-Some.ensures c.args.source.now []) c.requires

pub returns-in-Some-2 : goal.returns-in-Some-2
returns-in-Some-2 c = λ function.
    let x = c.args.variable.now in
    let source = c.args.source.now in
    let literal = ap (option_map string_bytes) (sym c.in-Some-2.is) ∙ c.in_ok-text-in-Some.ensures in
    c.fit_exactly.ensures ∙ ap (λ t. fit x (exactly t)) c.as_bytes.ensures.value
    ∙ ap (λ o. fit x (naming_of (expr_view source c.in-Some.name.now) o)) literal
    ∙ sym (ap (λ o. fit x (naming_by o)) (c.in-Some.ensures source function))

pub returns-in-None-2 : goal.returns-in-None-2
returns-in-None-2 c = λ function.
    let x = c.args.variable.now in
    let source = c.args.source.now in
    let literal = ap (option_map string_bytes) (sym c.in-None-2.is) ∙ c.in_ok-text-in-Some.ensures in
    IfOk-weaker c.fit_computed.result _ _ (λ found fits. fits
    ∙ ap (λ o. fit x (naming_of (expr_view source c.in-Some.name.now) o)) literal
    ∙ sym (ap (λ o. fit x (naming_by o)) (c.in-Some.ensures source function))) c.fit_computed.ensures

pub returns-in-None : goal.returns-in-None
returns-in-None c = λ function. any_fits c.args.variable.now ∙ sym (ap (λ o. fit c.args.variable.now (naming_by o)) (c.in-None.ensures c.args.source.now function))
