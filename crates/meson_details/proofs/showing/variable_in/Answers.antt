use Rattle.std.proofs.Common.{sym, ap, ◌∙◌, subst}
use Rattle.meson_lex.specs.Kinds.{IsIdentifier}
use Rattle.meson_syntax.specs.Grammar.{argument_words, expression_words}
use Rattle.meson_syntax.specs.View.{arg_view, expr_view}
use Rattle.meson_calls.specs.Strings.{AreGood}
use Rattle.meson_calls.proofs.Nested.{name_view, plain_view}
use Rattle.meson_details.proofs.showing.variable_in.Goals as goal

pub name_text-requires : goal.name_text-requires
name_text-requires c =
    let source = c.args.source.now in
    let is = ap (arg_view source) c.in-Plain.is ∙ plain_view source c.in-Plain.value in
    let good = subst (λ a. AreGood (argument_words a)) is c.requires in
    let named = ap (expr_view source) c.in-Identifier.is ∙ name_view source c.in-Identifier.name in
    subst IsIdentifier (sym c.text_of.ensures) (subst (λ e. AreGood (expression_words e)) named good).0
