use Rattle.std.proofs.Common.{sym, ap, ◌∙◌, subst}
use Rattle.meson_lex.specs.Kinds.{IsIdentifier}
use Rattle.meson_syntax.specs.Grammar.{argument_words}
use Rattle.meson_syntax.specs.View.{arg_view}
use Rattle.meson_calls.specs.Strings.{AreGood}
use Rattle.meson_calls.proofs.ArgumentViews.{named_view}
use Rattle.meson_details.specs.ValueTexts.{HasText}
use Rattle.meson_details.proofs.showing.shown_argument.Goals as goal

pub name_text-requires : goal.name_text-requires
name_text-requires c =
    let source = c.args.source.now in
    let is = ap (arg_view source) c.in-Named.is ∙ named_view source c.in-Named.span c.in-Named.name c.in-Named.value in
    subst IsIdentifier (sym c.text_of-key.ensures) (subst (λ a. AreGood (argument_words a)) is c.requires.good).0

pub shown_value-requires-clause-text : goal.shown_value-requires-clause-text
shown_value-requires-clause-text c =
    let source = c.args.source.now in
    subst (HasText source) (ap (arg_view source) c.in-Named.is ∙ named_view source c.in-Named.span c.in-Named.name c.in-Named.value) c.requires.text
