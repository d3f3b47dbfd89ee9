use Rattle.std.proofs.Common.{◌≡◌, sym, ap, ◌∙◌, subst}
use Rattle.std.proofs.lemmas.Result.{IfOk-weaker}
use Rattle.meson_lex.specs.Kinds.{IsIdentifier}
use Rattle.meson_syntax.specs.declared.operator.Bracket.TheVariants as bracket
use Rattle.meson_syntax.specs.Grammar.{expression_words}
use Rattle.meson_syntax.specs.Tree.{array}
use Rattle.meson_syntax.specs.View.{args_view, expr_view, list_view}
use Rattle.meson_calls.specs.GoodLists.{GoodArgs}
use Rattle.meson_calls.specs.Strings.{AreGood}
use Rattle.meson_edit.specs.Edits.{elements}
use Rattle.meson_details.specs.Details.{literal_in, of_each, shown_list, shown_value, source_text, variable_in}
use Rattle.meson_calls.proofs.Nested.{name_view, array_view, good_args, good_listing}
use Rattle.meson_edit.proofs.lists.CodeElements.{list_elements}
use Rattle.meson_details.proofs.showing.shown_value.Goals as goal

pub name_text-requires : goal.name_text-requires
name_text-requires c =
    let source = c.args.source.now in
    let is = ap (expr_view source) c.in-Identifier.is ∙ name_view source c.in-Identifier.name in
    subst IsIdentifier (sym c.text_of.ensures) (subst (λ e. AreGood (expression_words e)) is c.requires.good).0

pub shown_array-requires-clause-good : goal.shown_array-requires-clause-good
shown_array-requires-clause-good c =
    let source = c.args.source.now in
    let l = c.in-Array.list in
    let whole = subst (λ e. AreGood (expression_words e)) (ap (expr_view source) c.in-Array.is ∙ array_view source l) c.requires.good in
    subst (GoodArgs source) (sym c.get.ensures) (good_args source l (good_listing (list_view source l) bracket.Square whole))

pub returns-in-Array : goal.returns-in-Array
returns-in-Array c =
    let source = c.args.source.now in
    let l = c.in-Array.list in
    let e = expr_view source c.args.value.now in
    let is : e ≡ array (list_view source l) = ap (expr_view source) c.in-Array.is ∙ array_view source l in
    let same = ap (args_view source) c.get.ensures ∙ sym (list_elements source l) in
    IfOk-weaker c.shown_array.result _ _
    (λ s h.
    h ∙ ap (λ xs. shown_list (source_text source e) (of_each literal_in xs) (of_each variable_in xs)) same
    ∙ ap (λ f. shown_list (source_text source f) (of_each literal_in (elements (list_view source l))) (of_each variable_in (elements (list_view source l)))) is
    ∙ ap (shown_value source) (sym is))
    c.shown_array.ensures
