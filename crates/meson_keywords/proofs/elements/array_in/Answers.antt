use Rattle.meson_keywords.proofs.Words.{◌∙◌, sym, ap, subst, expression_words, args_view, expr_view, list_view, list_elements, GoodArgs, AreGood, array_view}
use Rattle.meson_keywords.proofs.Words.{good_args, good_listing, an_array, value_shape}
use Rattle.meson_syntax.specs.declared.operator.Bracket.TheVariants as bracket
use Rattle.meson_keywords.proofs.elements.array_in.Goals as goal

pub returns-in-Array-clause-shape : goal.returns-in-Array-clause-shape
returns-in-Array-clause-shape c = λ source.
    ap (λ v. value_shape (expr_view source v)) c.in-Array.is ∙ ap value_shape (array_view source c.in-Array.list) ∙ ap an_array (list_elements source c.in-Array.list) ∙ ap (λ xs. an_array (args_view source xs)) (sym c.get.ensures)

pub returns-in-Array-clause-good : goal.returns-in-Array-clause-good
returns-in-Array-clause-good c = λ source good.
    let whole = subst (λ e. AreGood (expression_words e)) (ap (expr_view source) c.in-Array.is ∙ array_view source c.in-Array.list) good in
    subst (GoodArgs source) (sym c.get.ensures) (good_args source c.in-Array.list (good_listing (list_view source c.in-Array.list) bracket.Square whole))
