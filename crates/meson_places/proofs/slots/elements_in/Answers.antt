use Rattle.std.proofs.Common.{◌∙◌, sym, ap, subst}
use Rattle.meson_syntax.specs.Grammar.{expression_words}
use Rattle.meson_syntax.specs.View.{args_view, expr_view, list_view}
use Rattle.meson_syntax.specs.declared.operator.Bracket.TheVariants as bracket
use Rattle.meson_calls.specs.GoodLists.{GoodArgs}
use Rattle.meson_calls.specs.Strings.{AreGood}
use Rattle.meson_edit.proofs.lists.CodeElements.{list_elements}
use Rattle.meson_calls.proofs.Nested.{array_view, call_view, good_args, good_listing}
use Rattle.meson_places.specs.Slots.{elements_in}
use Rattle.meson_places.proofs.ListElements.{dictionary_view}
use Rattle.meson_places.proofs.slots.elements_in.Goals as goal

pub returns-in-Call-clause-elements : goal.returns-in-Call-clause-elements
returns-in-Call-clause-elements c = λ source.
    ap (args_view source) c.get.ensures ∙ sym (list_elements source c.in-Call.arguments)
    ∙ sym (ap elements_in (ap (expr_view source) c.in-Call.is ∙ call_view source c.in-Call.span c.in-Call.name c.in-Call.arguments))

pub returns-in-Call-clause-good : goal.returns-in-Call-clause-good
returns-in-Call-clause-good c = λ source good.
    let whole = subst (λ e. AreGood (expression_words e)) (ap (expr_view source) c.in-Call.is ∙ call_view source c.in-Call.span c.in-Call.name c.in-Call.arguments) good in
    subst (GoodArgs source) (sym c.get.ensures) (good_args source c.in-Call.arguments (good_listing (list_view source c.in-Call.arguments) bracket.Round whole.1))

pub returns-in-Array-clause-elements : goal.returns-in-Array-clause-elements
returns-in-Array-clause-elements c = λ source.
    ap (args_view source) c.get-in-Array.ensures ∙ sym (list_elements source c.in-Array.list)
    ∙ sym (ap elements_in (ap (expr_view source) c.in-Array.is ∙ array_view source c.in-Array.list))

pub returns-in-Array-clause-good : goal.returns-in-Array-clause-good
returns-in-Array-clause-good c = λ source good.
    let whole = subst (λ e. AreGood (expression_words e)) (ap (expr_view source) c.in-Array.is ∙ array_view source c.in-Array.list) good in
    subst (GoodArgs source) (sym c.get-in-Array.ensures) (good_args source c.in-Array.list (good_listing (list_view source c.in-Array.list) bracket.Square whole))

pub returns-in-Dictionary-clause-elements : goal.returns-in-Dictionary-clause-elements
returns-in-Dictionary-clause-elements c = λ source.
    ap (args_view source) c.get-in-Dictionary.ensures ∙ sym (list_elements source c.in-Dictionary.list)
    ∙ sym (ap elements_in (ap (expr_view source) c.in-Dictionary.is ∙ dictionary_view source c.in-Dictionary.list))

pub returns-in-Dictionary-clause-good : goal.returns-in-Dictionary-clause-good
returns-in-Dictionary-clause-good c = λ source good.
    let whole = subst (λ e. AreGood (expression_words e)) (ap (expr_view source) c.in-Dictionary.is ∙ dictionary_view source c.in-Dictionary.list) good in
    subst (GoodArgs source) (sym c.get-in-Dictionary.ensures) (good_args source c.in-Dictionary.list (good_listing (list_view source c.in-Dictionary.list) bracket.Curly whole))
