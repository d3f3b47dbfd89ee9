use Rattle.meson_steps.proofs.HeldSteps.{held_in_files, held_may, held_new, held_same}
use Rattle.meson_steps.proofs.ListTaken.{no_tree}
use Rattle.meson_steps.proofs.StepTaken.{empty_list, some_list}
use Rattle.meson_steps.proofs.work.Work.further_step.Goals as goal

pub returns-then-is_empty-clause-done : goal.returns-then-is_empty-clause-done
returns-then-is_empty-clause-done c = λ old before rest s is r.
    let splices = c.in_ok-splices.splices.items in
    held_same old c.args.self.now c.args.held c.requires.held c.args.edit c.requires.of_list before rest s is r splices (c.in_ok-splices.ensures.done no_tree)
    (empty_list c.as_slice.result.now splices c.as_slice.ensures.value c.if-is_empty.ensures)

pub change_again-requires-clause-files : goal.change_again-requires-clause-files
change_again-requires-clause-files c =
    let n = c.requires.next.1 in
    held_in_files c.requires.next.0 c.args.self.now c.args.held c.requires.held c.args.edit c.requires.of_list n.before n.rest n.next n.is n.reached

pub change_again-requires-clause-read : goal.change_again-requires-clause-read
change_again-requires-clause-read c =
    let n = c.requires.next.1 in
    held_may c.requires.next.0 c.args.self.now c.args.held c.requires.held c.args.edit c.requires.of_list n.before n.rest n.next n.is n.reached
    c.in_ok-splices.splices.items (c.in_ok-splices.ensures.done no_tree)

pub returns-clause-done : goal.returns-clause-done
returns-clause-done c = λ old before rest s is r.
    let splices = c.in_ok-splices.splices.items in
    held_new old c.args.self.now c.args.held c.requires.held c.args.edit c.requires.of_list before rest s is r splices (c.in_ok-splices.ensures.done no_tree)
    (some_list c.as_slice.result.now splices c.as_slice.ensures.value c.if-is_empty.ensures) _ (c.in_ok-change_again.ensures.done no_tree)
