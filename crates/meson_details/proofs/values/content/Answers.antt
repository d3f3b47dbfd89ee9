use Rattle.std.proofs.Common.{sym, ap, ◌∙◌, subst}
use Rattle.std.specs.Str.{IsUtf8}
use Rattle.meson_lex.specs.Kinds.{IsIdentifier}
use Rattle.meson_syntax.specs.Grammar.{argument_words, expression_words}
use Rattle.meson_syntax.specs.View.{arg_view, expr_view}
use Rattle.meson_calls.specs.Strings.{AreGood}
use Rattle.meson_calls.proofs.ArgumentViews.{named_view, pair_view, plain_view}
use Rattle.meson_details.specs.Details.{source_text}
use Rattle.meson_details.specs.Values.{AreTextsOf}
use Rattle.meson_details.proofs.ValueParts.{entry_good}
use Rattle.meson_details.proofs.values.content.Goals as goal

pub shown_value-requires-clause-text : goal.shown_value-requires-clause-text
shown_value-requires-clause-text c =
    let source = c.args.source.now in
    subst (AreTextsOf source) (ap (arg_view source) c.in-Plain.is ∙ plain_view source c.in-Plain.value) c.requires.texts

pub shown_value-requires-in-Named-clause-text : goal.shown_value-requires-in-Named-clause-text
shown_value-requires-in-Named-clause-text c =
    let source = c.args.source.now in
    subst (AreTextsOf source) (ap (arg_view source) c.in-Named.is ∙ named_view source c.in-Named.span c.in-Named.name c.in-Named.value) c.requires.texts

pub shown_value-requires-in-Pair-clause-good : goal.shown_value-requires-in-Pair-clause-good
shown_value-requires-in-Pair-clause-good c =
    let source = c.args.source.now in
    let good = subst (λ a. AreGood (argument_words (arg_view source a))) c.in-Pair.is c.requires.good in
    subst (λ e. AreGood (expression_words (expr_view source e))) (sym c.get.ensures) (entry_good source c.in-Pair.span c.in-Pair.key c.in-Pair.value good).1

pub shown_value-requires-in-Pair-clause-text : goal.shown_value-requires-in-Pair-clause-text
shown_value-requires-in-Pair-clause-text c =
    let source = c.args.source.now in
    let texts = subst (AreTextsOf source) (ap (arg_view source) c.in-Pair.is ∙ pair_view source c.in-Pair.span c.in-Pair.key c.in-Pair.value) c.requires.texts in
    subst (λ e. IsUtf8 (source_text source (expr_view source e))) (sym c.get.ensures) texts.1

pub entry_key-requires-clause-good : goal.entry_key-requires-clause-good
entry_key-requires-clause-good c =
    let source = c.args.source.now in
    let good = subst (λ a. AreGood (argument_words (arg_view source a))) c.in-Pair.is c.requires.good in
    subst (λ e. AreGood (expression_words (expr_view source e))) (sym c.get-in-Pair.ensures) (entry_good source c.in-Pair.span c.in-Pair.key c.in-Pair.value good).0

pub entry_key-requires-clause-text : goal.entry_key-requires-clause-text
entry_key-requires-clause-text c =
    let source = c.args.source.now in
    let texts = subst (AreTextsOf source) (ap (arg_view source) c.in-Pair.is ∙ pair_view source c.in-Pair.span c.in-Pair.key c.in-Pair.value) c.requires.texts in
    subst (λ e. IsUtf8 (source_text source (expr_view source e))) (sym c.get-in-Pair.ensures) texts.0
