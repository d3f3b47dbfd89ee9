use Rattle.std.proofs.Common.{◌∙◌, ◌⊎◌, ap, length, subst, sym}
use Rattle.std.specs.Prelude.{IfErr, reverse}
use Rattle.meson_splice.specs.Past.{redone, undone}
use Rattle.meson_rewrite.proofs.Checking.{may-refuse}
use Rattle.meson_rewrite.proofs.Names.{redo-within, stops-step, undo-within}
use Rattle.meson_rewrite.specs.LoggedRuns.{newest_run}
use Rattle.meson_rewrite.specs.declared.logged_runs.Side.TheVariants as side
use Rattle.meson_rewrite.specs.inside.Edited.{IsWithin}
use Rattle.meson_rewrite.specs.Steps.{MayRefuseStep}
use Rattle.meson_rewrite.specs.Stops.{WantsMemory}
use Rattle.meson_rewrite.specs.declared.request.Step.TheVariants.{ForgetOldest}
use Rattle.meson_rewrite.proofs.steps.act.Goals as goal

pub undo_stop-requires : goal.undo_stop-requires
undo_stop-requires c =
    let old = c.args.session.now in
    subst (λ files. IsWithin c.in-Err-undo.fault (length files)) (sym (c.files.ensures ∙ ap (λ s. s.project.files) c.in-Err-undo.ensures.kept)) (undo-within old.history old.project.files c.in-Err-undo.fault c.in-Err-undo.ensures.refused)

pub returns-in_ok-run-in-Err-undo-clause-refused : goal.returns-in_ok-run-in-Err-undo-clause-refused
returns-in_ok-run-in-Err-undo-clause-refused c =
    let old = c.args.session.now in
    let why = c.undo_stop.result in
    let kept = c.in-Err-undo.ensures.kept in
    let newest = c.in_ok-run-in-Err-undo.ensures ∙ ap (λ runs. newest_run side.Undo 1 (reverse runs)) (c.get-in-Err-undo.ensures ∙ ap (λ s. s.history.past) kept) in
    subst (λ s. WantsMemory why ⊎ MayRefuseStep c.args.flags s old why) (sym c.in-Undo.is)
    (stops-step old side.Undo old.history.past (undone old.history old.project.files) c.files.result.now (c.files.ensures ∙ ap (λ s. s.project.files) kept)
    c.in_ok-run-in-Err-undo.run' newest c.in-Err-undo.fault why c.in-Err-undo.ensures.refused c.undo_stop.ensures)

pub undo_stop-requires-in-Err-redo : goal.undo_stop-requires-in-Err-redo
undo_stop-requires-in-Err-redo c =
    let old = c.args.session.now in
    subst (λ files. IsWithin c.in-Err-redo.fault (length files)) (sym (c.files-in-Err-redo.ensures ∙ ap (λ s. s.project.files) c.in-Err-redo.ensures.kept)) (redo-within old.history old.project.files c.in-Err-redo.fault c.in-Err-redo.ensures.refused)

pub returns-in_ok-run-in-Err-redo-clause-refused : goal.returns-in_ok-run-in-Err-redo-clause-refused
returns-in_ok-run-in-Err-redo-clause-refused c =
    let old = c.args.session.now in
    let why = c.undo_stop-in-Err-redo.result in
    let kept = c.in-Err-redo.ensures.kept in
    let newest = c.in_ok-run-in-Err-redo.ensures ∙ ap (λ runs. newest_run side.Redo 1 (reverse runs)) (c.get-in-Err-redo.ensures ∙ ap (λ s. s.history.future) kept) in
    subst (λ s. WantsMemory why ⊎ MayRefuseStep c.args.flags s old why) (sym c.in-Redo.is)
    (stops-step old side.Redo old.history.future (redone old.history old.project.files) c.files-in-Err-redo.result.now
    (c.files-in-Err-redo.ensures ∙ ap (λ s. s.project.files) kept)
    c.in_ok-run-in-Err-redo.run' newest c.in-Err-redo.fault why c.in-Err-redo.ensures.refused c.undo_stop-in-Err-redo.ensures)

pub returns-in-UndoTo-clause-refused : goal.returns-in-UndoTo-clause-refused
returns-in-UndoTo-clause-refused c =
    let old = c.args.session.now in
    subst (λ s. IfErr c.back_to.result (λ why. WantsMemory why ⊎ MayRefuseStep c.args.flags s old why)) (sym c.in-UndoTo.is) c.back_to.ensures.refused

pub returns-in-ForgetOldest-clause-refused : goal.returns-in-ForgetOldest-clause-refused
returns-in-ForgetOldest-clause-refused c =
    let old = c.args.session.now in
    subst (λ s. IfErr c.oldest_forgotten.result (λ why. WantsMemory why ⊎ MayRefuseStep c.args.flags s old why)) (sym c.in-ForgetOldest.is)
    (may-refuse c.args.flags (ForgetOldest c.in-ForgetOldest.count) old c.oldest_forgotten.result c.oldest_forgotten.ensures.refused)
