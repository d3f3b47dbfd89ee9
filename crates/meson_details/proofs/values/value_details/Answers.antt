use Rattle.std.proofs.Common.{◌≡◌, List, sym, ap, ap₂, ◌∙◌, subst}
use Rattle.std.specs.Prelude.{All}
use Rattle.meson_lex.specs.declared.kinds.Span.{Span}
use Rattle.meson_syntax.specs.declared.operator.Bracket.TheVariants as bracket
use Rattle.meson_syntax.specs.declared.tree.List as rust
use Rattle.meson_syntax.specs.Grammar.{expression_words, listing_words}
use Rattle.meson_syntax.specs.Tree.{Argument, Expression}
use Rattle.meson_syntax.specs.View.{args_view, expr_view, list_view, text_at}
use Rattle.meson_edit.specs.Edits.{elements}
use Rattle.meson_edit.proofs.lists.CodeElements.{list_elements}
use Rattle.meson_calls.specs.GoodLists.{GoodArgs}
use Rattle.meson_calls.specs.Strings.{AreGood}
use Rattle.meson_calls.proofs.Nested.{array_view, call_view, good_args, good_listing}
use Rattle.meson_details.specs.Values.{AreTextsOf, HasTexts, contents, value_details}
use Rattle.meson_details.specs.declared.details.ValueDetails.TheVariants as details
use Rattle.meson_details.proofs.ValueParts.{entries_view}
use Rattle.meson_details.proofs.values.value_details.Goals as goal

-- the texts of the elements of a list
listed_texts : (source : List _) (l : rust.List) → All (AreTextsOf source) (elements (list_view source l)) → (xs : List _) → xs ≡ l.items → All (AreTextsOf source) (args_view source xs)
listed_texts source l all xs is = subst (All (AreTextsOf source)) (list_elements source l ∙ ap (args_view source) (sym is)) all

in_order : (source : List _) (l : rust.List) (xs : List _) → xs ≡ l.items → contents source (args_view source xs) ≡ contents source (elements (list_view source l))
in_order source l xs is = ap (contents source) (ap (args_view source) is ∙ sym (list_elements source l))

pub contents-requires-clause-good : goal.contents-requires-clause-good
contents-requires-clause-good c =
    let source = c.args.source.now in
    let l = c.in-Call.arguments in
    let whole = subst (λ e. AreGood (expression_words e)) (ap (expr_view source) c.in-Call.is ∙ call_view source c.in-Call.span c.in-Call.name l) c.requires.good in
    subst (GoodArgs source) (sym c.get.ensures) (good_args source l (good_listing (list_view source l) bracket.Round whole.1))

pub contents-requires-clause-texts : goal.contents-requires-clause-texts
contents-requires-clause-texts c =
    let source = c.args.source.now in
    let l = c.in-Call.arguments in
    let texts = subst (HasTexts source) (ap (expr_view source) c.in-Call.is ∙ call_view source c.in-Call.span c.in-Call.name l) c.requires.texts in
    listed_texts source l texts.inside c.get.result.now c.get.ensures

pub contents-requires-in-Array-clause-good : goal.contents-requires-in-Array-clause-good
contents-requires-in-Array-clause-good c =
    let source = c.args.source.now in
    let l = c.in-Array.list in
    let whole = subst (λ e. AreGood (expression_words e)) (ap (expr_view source) c.in-Array.is ∙ array_view source l) c.requires.good in
    subst (GoodArgs source) (sym c.get-in-Array.ensures) (good_args source l (good_listing (list_view source l) bracket.Square whole))

pub contents-requires-in-Array-clause-texts : goal.contents-requires-in-Array-clause-texts
contents-requires-in-Array-clause-texts c =
    let source = c.args.source.now in
    let l = c.in-Array.list in
    let texts = subst (HasTexts source) (ap (expr_view source) c.in-Array.is ∙ array_view source l) c.requires.texts in
    listed_texts source l texts.inside c.get-in-Array.result.now c.get-in-Array.ensures

pub contents-requires-in-Dictionary-clause-good : goal.contents-requires-in-Dictionary-clause-good
contents-requires-in-Dictionary-clause-good c =
    let source = c.args.source.now in
    let l = c.in-Dictionary.list in
    let whole = subst (λ e. AreGood (expression_words e)) (ap (expr_view source) c.in-Dictionary.is ∙ entries_view source l) c.requires.good in
    subst (GoodArgs source) (sym c.get-in-Dictionary.ensures) (good_args source l (good_listing (list_view source l) bracket.Curly whole))

pub contents-requires-in-Dictionary-clause-texts : goal.contents-requires-in-Dictionary-clause-texts
contents-requires-in-Dictionary-clause-texts c =
    let source = c.args.source.now in
    let l = c.in-Dictionary.list in
    let texts = subst (HasTexts source) (ap (expr_view source) c.in-Dictionary.is ∙ entries_view source l) c.requires.texts in
    listed_texts source l texts.inside c.get-in-Dictionary.result.now c.get-in-Dictionary.ensures

pub returns-in_ok-contents-in-Call : goal.returns-in_ok-contents-in-Call
returns-in_ok-contents-in-Call c =
    let source = c.args.source.now in
    let l = c.in-Call.arguments in
    let is = ap (expr_view source) c.in-Call.is ∙ call_view source c.in-Call.span c.in-Call.name l in
    let text = text_at source c.in-Call.name in
    let name = c.in_ok-name_of-in-Call.field-0 in
    let all = c.in_ok-contents-in-Call.field-0 in
    ap (λ f. details.Call f name all) (c.in_ok-name_text-in-Call.ensures ∙ c.text_of.ensures)
    ∙ ap₂ (λ n cs. details.Call text n cs) (c.in_ok-name_of-in-Call.ensures text) (c.in_ok-contents-in-Call.ensures ∙ in_order source l c.get.result.now c.get.ensures)
    ∙ sym (ap (value_details source) is)

pub returns-in_ok-inside-in-Array : goal.returns-in_ok-inside-in-Array
returns-in_ok-inside-in-Array c =
    let source = c.args.source.now in
    let l = c.in-Array.list in
    ap details.List (c.in_ok-inside-in-Array.ensures ∙ in_order source l c.get-in-Array.result.now c.get-in-Array.ensures)
    ∙ sym (ap (value_details source) (ap (expr_view source) c.in-Array.is ∙ array_view source l))

pub returns-in_ok-inside-in-Dictionary : goal.returns-in_ok-inside-in-Dictionary
returns-in_ok-inside-in-Dictionary c =
    let source = c.args.source.now in
    let l = c.in-Dictionary.list in
    ap details.List (c.in_ok-inside-in-Dictionary.ensures ∙ in_order source l c.get-in-Dictionary.result.now c.get-in-Dictionary.ensures)
    ∙ sym (ap (value_details source) (ap (expr_view source) c.in-Dictionary.is ∙ entries_view source l))
