use Rattle.meson_steps.proofs.Words.{◌∙◌, Some, sym, standing, settled}
use Rattle.meson_steps.proofs.ListTaken.{no_tree}
use Rattle.meson_steps.proofs.StepTaken.{code_in_files, code_in_trees, empty_list, some_list, step_may, step_may_list, step_new, step_new_list, step_same}
use Rattle.meson_steps.proofs.work.Work.first_step.Goals as goal

pub laid_at-requires : goal.laid_at-requires
laid_at-requires c = c.requires

pub returns-then-is_empty-clause-done : goal.returns-then-is_empty-clause-done
returns-then-is_empty-clause-done c = λ old before rest s is r.
    let splices = c.in_ok-splices.splices.items in
    step_same old (standing c.args.self.now) c.args.step before rest s is r no_tree splices (c.in_ok-splices.ensures.done no_tree) (empty_list c.as_slice.result.now splices c.as_slice.ensures.value c.if-is_empty.ensures)

pub change_list-requires-clause-trees : goal.change_list-requires-clause-trees
change_list-requires-clause-trees c =
    let n = c.requires.1 in
    code_in_trees c.requires.0 (standing c.args.self.now) c.args.step n.before n.rest n.next n.is n.reached

pub change_list-requires-clause-files : goal.change_list-requires-clause-files
change_list-requires-clause-files c =
    let n = c.requires.1 in
    code_in_files c.requires.0 (standing c.args.self.now) c.args.step n.before n.rest n.next n.is n.reached

pub change_list-requires-clause-read : goal.change_list-requires-clause-read
change_list-requires-clause-read c =
    let n = c.requires.1 in
    step_may_list c.requires.0 (standing c.args.self.now) c.args.step n.before n.rest n.next n.is n.reached no_tree c.in_ok-splices.splices.items (c.in_ok-splices.ensures.done no_tree)
    (sym c.is_of_list-of_list.ensures ∙ c.if-of_list.true)

pub change-requires-clause-trees : goal.change-requires-clause-trees
change-requires-clause-trees c =
    let n = c.requires.1 in
    code_in_trees c.requires.0 (standing c.args.self.now) c.args.step n.before n.rest n.next n.is n.reached

pub change-requires-clause-files : goal.change-requires-clause-files
change-requires-clause-files c =
    let n = c.requires.1 in
    code_in_files c.requires.0 (standing c.args.self.now) c.args.step n.before n.rest n.next n.is n.reached

pub change-requires-clause-read : goal.change-requires-clause-read
change-requires-clause-read c =
    let n = c.requires.1 in
    step_may c.requires.0 (standing c.args.self.now) c.args.step n.before n.rest n.next n.is n.reached no_tree c.in_ok-splices.splices.items (c.in_ok-splices.ensures.done no_tree)

pub returns-then-of_list-clause-done : goal.returns-then-of_list-clause-done
returns-then-of_list-clause-done c = λ old before rest s is r.
    let splices = c.in_ok-splices.splices.items in
    step_new_list old (standing c.args.self.now) c.args.step before rest s is r no_tree splices (c.in_ok-splices.ensures.done no_tree)
    (some_list c.as_slice.result.now splices c.as_slice.ensures.value c.if-is_empty.ensures) (settled (Some c.in_ok-change_list.field-0) c.change_list.new.self)
    (sym c.is_of_list-of_list.ensures ∙ c.if-of_list.true) (c.in_ok-change_list.ensures.done no_tree)

pub returns-clause-done : goal.returns-clause-done
returns-clause-done c = λ old before rest s is r.
    let splices = c.in_ok-splices.splices.items in
    step_new old (standing c.args.self.now) c.args.step before rest s is r no_tree splices (c.in_ok-splices.ensures.done no_tree)
    (some_list c.as_slice.result.now splices c.as_slice.ensures.value c.if-is_empty.ensures) (standing c.change.new.self)
    (sym c.is_of_list-of_list.ensures ∙ c.if-of_list.false) c.in_ok-change.ensures.done
