use Rattle.meson_steps.proofs.Words.{[], arith, bytes_at, File, standing}
use Rattle.meson_steps.proofs.StepTaken.{code_are_laid, code_in_files, code_in_trees, code_laid, code_may_be_laid}
use Rattle.meson_steps.proofs.work.Work.laid_at.Goals as goal

nobody : File
nobody = record { name = []; bytes = [] }

pub unreachable-requires : goal.unreachable-requires
unreachable-requires c =
    let n = c.requires.1 in
    let within = code_in_trees c.requires.0 (standing c.args.self.now) (record { list = c.args.place.now; edit = c.args.edit }) n.before n.rest n.next n.is n.reached in
    absurd (omega (arith, within, c.if-file-len.true, c.len.ensures))

pub unreachable-requires-in_default : goal.unreachable-requires-in_default
unreachable-requires-in_default c =
    let n = c.requires.1 in
    code_laid c.requires.0 (standing c.args.self.now) (record { list = c.args.place.now; edit = c.args.edit }) n.before n.rest n.next n.is n.reached c.index-tree.result.now c.index-tree.ensures
    c.primitive_of.result (c.primitive_of.ensures (bytes_at n.next.file c.args.self.now.files)) c.in_default.is

pub name-requires : goal.name-requires
name-requires c =
    let n = c.requires.1 in
    code_in_files c.requires.0 (standing c.args.self.now) (record { list = c.args.place.now; edit = c.args.edit }) n.before n.rest n.next n.is n.reached

pub bytes-requires : goal.bytes-requires
bytes-requires c =
    let n = c.requires.1 in
    code_in_files c.requires.0 (standing c.args.self.now) (record { list = c.args.place.now; edit = c.args.edit }) n.before n.rest n.next n.is n.reached

pub laid-requires : goal.laid-requires
laid-requires c =
    let n = c.requires.1 in
    code_may_be_laid c.requires.0 (standing c.args.self.now) (record { list = c.args.place.now; edit = c.args.edit }) n.before n.rest n.next n.is n.reached c.index-tree.result.now c.index-tree.ensures
    c.in-Some.primitive (c.in-Some.ensures (bytes_at n.next.file c.args.self.now.files)) c.bytes.result.now c.bytes.ensures
    c.is_of_list.result c.is_of_list.ensures c.looked_at-list.result (c.looked_at-list.ensures (bytes_at n.next.file c.args.self.now.files))

pub returns-clause-done : goal.returns-clause-done
returns-clause-done c = λ d.
    let n = c.requires.1 in
    code_are_laid c.requires.0 (standing c.args.self.now) (record { list = c.args.place.now; edit = c.args.edit }) n.before n.rest n.next n.is n.reached c.index-tree.result.now c.index-tree.ensures
    c.in-Some.primitive (c.in-Some.ensures (bytes_at n.next.file c.args.self.now.files)) c.bytes.result.now c.bytes.ensures c.name.result.now nobody (c.name.ensures nobody) d c.laid.result (λ v. v.items) c.laid.ensures.done
