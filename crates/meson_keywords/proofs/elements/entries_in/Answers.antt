use Rattle.meson_keywords.proofs.Words.{◌∙◌, sym, ap, subst, Some, expression_words, args_view, expr_view, list_view, list_elements, GoodArgs, AreGood}
use Rattle.meson_keywords.proofs.Words.{good_args, good_listing, entries}
use Rattle.meson_syntax.specs.declared.operator.Bracket.TheVariants as bracket
use Rattle.meson_keywords.proofs.ElementsSay.{dictionary_view}
use Rattle.meson_keywords.proofs.elements.entries_in.Goals as goal

pub returns-in-Dictionary-clause-entries : goal.returns-in-Dictionary-clause-entries
returns-in-Dictionary-clause-entries c = λ source.
    ap (λ v. entries (expr_view source v)) c.in-Dictionary.is ∙ ap entries (dictionary_view source c.in-Dictionary.list) ∙ ap Some (list_elements source c.in-Dictionary.list) ∙ ap (λ xs. Some (args_view source xs)) (sym c.get.ensures)

pub returns-in-Dictionary-clause-good : goal.returns-in-Dictionary-clause-good
returns-in-Dictionary-clause-good c = λ source good.
    let whole = subst (λ e. AreGood (expression_words e)) (ap (expr_view source) c.in-Dictionary.is ∙ dictionary_view source c.in-Dictionary.list) good in
    subst (GoodArgs source) (sym c.get.ensures) (good_args source c.in-Dictionary.list (good_listing (list_view source c.in-Dictionary.list) bracket.Curly whole))
