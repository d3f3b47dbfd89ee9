use Rattle.std.proofs.Common.{◌≡◌, List, [], ◌∷◌, ◌++◌, sym, ap, ◌∙◌, subst, rules}
use Rattle.std.proofs.lemmas.Result.{err_from_is_err_and}
use Rattle.meson_splice.specs.Patch.{inverses_of, patched_all}
use Rattle.meson_splice.specs.Past.{undone}
use Rattle.meson_splice.specs.declared.change.Change.{Change}
use Rattle.meson_splice.specs.declared.history.History.{History}
use Rattle.meson_splice.specs.declared.file_set.File.{File}
use Rattle.meson_calls.specs.Loading.{IsProject}
use Rattle.meson_script.specs.Undoing.{MayNotChange, MayNotStep}
use Rattle.meson_script.specs.declared.fault.UndoFault.{UndoFault}
use Rattle.meson_script.proofs.RunFacts.{change-names, names}
use Rattle.meson_script.proofs.StepFacts.{fault-given, files-given, refused-change, undone-last, undone-moved, undo-refuses, undo-stands}
use Rattle.meson_script.proofs.TextFacts.{undone-text}
use Rattle.meson_script.proofs.session.Session.undo.Goals as goal

refused : (h : History) (files : List File) (front : List Change) (change : Change) (f : UndoFault) → h.past ≡ front ++ change ∷ [] → MayNotChange (patched_all files (inverses_of change.splices)) f → MayNotStep (undone h files) f
refused h files front change f is why =
    subst (λ r. MayNotStep r f) (sym (undone-last front change h files is)) (refused-change (patched_all files (inverses_of change.splices)) (λ _. record { past = front; future = h.future ++ change ∷ [] }) f why)

pub returns-in_err-project-clause-refused : goal.returns-in_err-project-clause-refused
returns-in_err-project-clause-refused c =
    let e = c.in-Some.ensures in
    let error = err_from_is_err_and c.from_residual-in_err-project.result c.from_residual-in_err-project.ensures.1 in
    rw (error.1, error.2) (refused c.args.self.now.history c.args.self.now.project.files e.0 c.in-Some.change.now c.in_err-project.field-0.0 e.1 (fault-given c.files_before.result (λ fs. patched_all fs (inverses_of c.in-Some.change.now.splices)) c.files.result.now _ c.files.ensures c.files_before.ensures.done _ c.files_before.ensures.refused c.in_err-project.ensures.refused))

pub returns-in_err-project-clause-fits : goal.returns-in_err-project-clause-fits
returns-in_err-project-clause-fits c =
    let error = err_from_is_err_and c.from_residual-in_err-project.result c.from_residual-in_err-project.ensures.1 in
    rw (error.1, error.2) (λ s stands.
    let e = c.in-Some.ensures in
    undo-refuses s c.args.self.now.history c.args.self.now.project.files c.in_err-project.field-0.0 stands
    (refused c.args.self.now.history c.args.self.now.project.files e.0 c.in-Some.change.now c.in_err-project.field-0.0 e.1 (fault-given c.files_before.result (λ fs. patched_all fs (inverses_of c.in-Some.change.now.splices)) c.files.result.now _ c.files.ensures c.files_before.ensures.done _ c.files_before.ensures.refused c.in_err-project.ensures.refused)))

pub count_differing-files-requires : goal.count_differing-files-requires
count_differing-files-requires c =
    let change = c.in-Some.change.now in
    ap names c.files-2.ensures ∙ change-names c.args.self.now.project.files (inverses_of change.splices) c.in_ok-project.project.files (files-given c.files_before.result (λ fs. patched_all fs (inverses_of c.in-Some.change.now.splices)) c.files.result.now _ c.files.ensures c.files_before.ensures.done _ c.in_ok-project.ensures.done) ∙ ap names (sym c.files-3.ensures)

pub returns-clause-step : goal.returns-clause-step
returns-clause-step c = λ s stands.
    let e = c.in-Some.ensures in
    let moved = c.in_ok-move_last.ensures.ok in
    undo-stands c.args.self.now.history (record { past = c.move_last.new.self; future = c.move_last.new.to }) c.args.self.now.project.files c.in_ok-project.project.files s stands
    (undone-moved c.args.self.now.history c.args.self.now.project.files c.in_ok-project.project.files e.0 c.move_last.new.self c.move_last.new.to c.in-Some.change.now moved.0 e.1 (files-given c.files_before.result (λ fs. patched_all fs (inverses_of c.in-Some.change.now.splices)) c.files.result.now _ c.files.ensures c.files_before.ensures.done _ c.in_ok-project.ensures.done) moved.1 moved.2)

pub returns-clause-text : goal.returns-clause-text
returns-clause-text c = λ before.
    let moved = c.in_ok-move_last.ensures.ok in
    undone-text c.args.self.now.history (record { past = c.move_last.new.self; future = c.move_last.new.to }) moved.0 moved.1 moved.2 before

pub returns-clause-project : goal.returns-clause-project
returns-clause-project c = subst IsProject c.project.view_is c.project.invariant.0

pub returns-clause-done : goal.returns-clause-done
returns-clause-done c =
    let e = c.in-Some.ensures in
    let moved = c.in_ok-move_last.ensures.ok in
    record {
      before = e.0;
      change = c.in-Some.change.now;
      is_last = e.1;
      is_step = undone-moved c.args.self.now.history c.args.self.now.project.files c.in_ok-project.project.files e.0 c.move_last.new.self c.move_last.new.to c.in-Some.change.now moved.0 e.1 (files-given c.files_before.result (λ fs. patched_all fs (inverses_of c.in-Some.change.now.splices)) c.files.result.now _ c.files.ensures c.files_before.ensures.done _ c.in_ok-project.ensures.done) moved.1 moved.2;
      files = search rules;
      splices = search rules;
      title = search rules;
      relexed = c.stepped.ensures.counts.2;
      info = c.stepped.ensures.info;
    }
