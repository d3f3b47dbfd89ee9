use Rattle.std.proofs.Common.{◌∙◌, rules, ◌≡◌, [], refl, sym, ap}
use Rattle.std.proofs.lemmas.Result.{IfOk-weaker}
use Rattle.meson_calls.proofs.Parted.{row_is}
use Rattle.meson_syntax.specs.declared.tree.Arg.TheFolds.{the_lemmas}
use Rattle.meson_syntax.specs.View.{expr_view}
use Rattle.meson_following.specs.Names.{between, computed, fit}
use Rattle.meson_following.proofs.GoodNodes.{base_good}
use Rattle.meson_following.proofs.NameParts.{any_fits, row_fits, sum_fits}
use Rattle.meson_following.proofs.names.fit_computed.Goals as goal

pub formatted-requires : goal.formatted-requires
formatted-requires c = base_good c.args.source.now _ _ _ _ _ _ c.in-Postfix.is c.get-in-Postfix.ensures c.get-in-Postfix-2.ensures c.requires

pub returns-then-are_plus : goal.returns-then-are_plus
returns-then-are_plus c =
    let source = c.args.source.now in
    let all = sym (c.are_plus.ensures source) ∙ c.if-are_plus.true in
    let is = row_is source _ _ _ _ _ _ c.in-Row.is c.get.ensures c.get-rest.ensures in
    IfOk-weaker c.fit_sum.result _ _ (λ found fits. fits ∙ sum_fits c.args.variable.now _ _ _ _ is all) c.fit_sum.ensures

pub returns-else-are_plus : goal.returns-else-are_plus
returns-else-are_plus c =
    let source = c.args.source.now in
    let some = sym (c.are_plus.ensures source) ∙ c.if-are_plus.false in
    row_fits c.args.variable.now _ _ _ _ (row_is source _ _ _ _ _ _ c.in-Row.is refl c.get-rest.ensures) some

pub returns-in_default : goal.returns-in_default
returns-in_default c =
    let any : computed (expr_view c.args.source.now c.args.expr.now) ≡ between [] [] = search (rules, the_lemmas) in
    any_fits c.args.variable.now ∙ sym (ap (fit c.args.variable.now) any)
