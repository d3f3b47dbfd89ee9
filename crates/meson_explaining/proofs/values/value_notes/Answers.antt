use Rattle.std.proofs.Common.{◌≡◌, Some, sym, subst, subst₂, ap, ◌∙◌}
use Rattle.std.specs.Prelude.{IsTrue}
use Rattle.std.proofs.lemmas.Result.{IfOk-weaker}
use Rattle.meson_splice.specs.Files.{bytes_at}
use Rattle.meson_calls.specs.Loading.{named_trees, views}
use Rattle.meson_calls.specs.Project.{expression_at}
use Rattle.meson_details.specs.Called.{called_view}
use Rattle.meson_details.specs.Details.{is_call}
use Rattle.meson_details.specs.ValueTexts.{ArgsHaveTexts}
use Rattle.meson_plan.proofs.PlacesFound.{call_found}
use Rattle.meson_explaining.proofs.ArgumentNotes.{args_texts}
use Rattle.meson_explaining.proofs.CallValues.{called_notes}
use Rattle.meson_explaining.proofs.values.value_notes.Goals as goal
use Rattle.meson_calls.specs.Searching.{name_at}

pub call_at-called-requires-clause-there : goal.call_at-called-requires-clause-there
call_at-called-requires-clause-there c =
    subst₂ (λ fs ts. IsTrue (is_call (named_trees fs (views fs ts)) c.in-Ok.place)) (sym c.files.ensures) (sym c.trees.ensures)
    (call_found c.args.project.now c.args.subject.role (name_at c.args.subject.name) c.in-Ok.place c.in-Ok.ensures.found)

pub argument_notes-requires : goal.argument_notes-requires
argument_notes-requires c =
    let called = c.call_at-called.result in
    subst (ArgsHaveTexts called.source.now) (sym c.get.ensures) (args_texts called.source.now called.arguments.now c.call_at-called.ensures.texts)

pub returns-in-Ok : goal.returns-in-Ok
returns-in-Ok c =
    let place = c.in-Ok.place in
    let called = c.call_at-called.result in
    let at = subst₂ (λ fs ts. expression_at (named_trees fs (views fs ts)) place ≡ Some (called_view called)) c.files.ensures c.trees.ensures c.call_at-called.ensures.at in
    let source = c.call_at-called.ensures.source ∙ ap (bytes_at place.file) c.files.ensures in
    IfOk-weaker c.argument_notes.result _ _
    (λ notes is. is ∙ called_notes c.args.project.now c.args.subject.role (name_at c.args.subject.name) c.args.key.now place called c.get.result.now c.in-Ok.ensures.found at source c.get.ensures)
    c.argument_notes.ensures
