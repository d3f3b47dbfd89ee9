use Rattle.meson_steps.proofs.Words.{[], File}
use Rattle.meson_steps.proofs.HeldSteps.{held_are_laid, held_in_files, held_laid, held_ready}
use Rattle.meson_steps.proofs.work.Work.laid_again.Goals as goal

nobody : File
nobody = record { name = []; bytes = [] }

pub unreachable-requires : goal.unreachable-requires
unreachable-requires c =
    let n = c.requires.next.1 in
    held_laid c.requires.next.0 c.args.self.now c.args.held.now c.requires.held c.args.edit c.requires.of_list n.before n.rest n.next n.is n.reached c.list_primitive.result c.list_primitive.ensures c.in_default.is

pub name-requires : goal.name-requires
name-requires c =
    let n = c.requires.next.1 in
    held_in_files c.requires.next.0 c.args.self.now c.args.held.now c.requires.held c.args.edit c.requires.of_list n.before n.rest n.next n.is n.reached

pub bytes-requires : goal.bytes-requires
bytes-requires c =
    let n = c.requires.next.1 in
    held_in_files c.requires.next.0 c.args.self.now c.args.held.now c.requires.held c.args.edit c.requires.of_list n.before n.rest n.next n.is n.reached

pub laid-requires : goal.laid-requires
laid-requires c =
    let n = c.requires.next.1 in
    held_ready c.requires.next.0 c.args.self.now c.args.held.now c.requires.held c.args.edit c.requires.of_list n.before n.rest n.next n.is n.reached
    c.in-Some.primitive c.in-Some.ensures c.bytes.result.now c.bytes.ensures

pub returns-clause-done : goal.returns-clause-done
returns-clause-done c = λ d.
    let n = c.requires.next.1 in
    held_are_laid c.requires.next.0 c.args.self.now c.args.held.now c.requires.held c.args.edit c.requires.of_list n.before n.rest n.next n.is n.reached
    c.in-Some.primitive c.in-Some.ensures c.bytes.result.now c.bytes.ensures c.name.result.now nobody (c.name.ensures nobody) d c.laid.result (λ v. v.items) c.laid.ensures.done
