use Rattle.std.proofs.Common.{sym, ap, ◌∙◌, subst}
use Rattle.std.specs.Prelude.{Ok}
use Rattle.std.proofs.lemmas.Result.{err_from_is_err_and}
use Rattle.std.specs.List.{filter_map}
use Rattle.meson_splice.specs.Patch.{then_ok}
use Rattle.meson_syntax.specs.View.{args_view, list_view}
use Rattle.meson_edit.specs.Edits.{elements}
use Rattle.meson_edit.proofs.lists.CodeElements.{list_elements}
use Rattle.meson_details.specs.Details.{shown_argument}
use Rattle.meson_details.specs.ValueTexts.{ArgsHaveTexts}
use Rattle.meson_details.proofs.ValuesAreTexts.{args_texts}
use Rattle.meson_details.proofs.showing.keywords_of.Goals as goal

pub shown_arguments-requires-clause-texts : goal.shown_arguments-requires-clause-texts
shown_arguments-requires-clause-texts c =
    let source = c.args.source.now in
    subst (ArgsHaveTexts source) (sym c.get.ensures) (args_texts source c.args.arguments.now c.requires.texts)

pub returns-in_err-call_told-clause-refused : goal.returns-in_err-call_told-clause-refused
returns-in_err-call_told-clause-refused c =
    let error = err_from_is_err_and c.from_residual.result c.from_residual.ensures.1 in
    rw (error.1, error.2) (λ function other.
    let source = c.args.source.now in
    let all = filter_map (shown_argument source c.args.role) (elements (list_view source c.args.arguments.now)) in
    ap (λ told. then_ok told (λ _. Ok all)) (c.in_err-call_told.ensures.refused function other))

pub returns-clause-shown : goal.returns-clause-shown
returns-clause-shown c = λ function.
    let source = c.args.source.now in
    let l = c.args.arguments.now in
    let all = filter_map (shown_argument source c.args.role) (elements (list_view source l)) in
    ap (λ told. then_ok told (λ _. Ok all)) (c.in_ok-call_told.ensures.told function)
    ∙ ap (λ xs. Ok (filter_map (shown_argument source c.args.role) xs)) (list_elements source l ∙ ap (args_view source) (sym c.get.ensures))
    ∙ ap Ok (sym c.in_ok-pairs.ensures)
