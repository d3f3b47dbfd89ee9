use Rattle.std.proofs.Common.{[], refl}
use Rattle.std.proofs.Output.{has_written_append, has_written_of_eq}
use Rattle.meson_rewrite.proofs.TextArrays.{one-more, written_whole}
use Rattle.meson_rewrite.specs.Notes.{note_data}
use Rattle.meson_rewrite.proofs.notes.NotesDisplay.fmt.Goals as goal

pub loop-note-init : goal.loop-note-init
loop-note-init g c = λ plain. record { wrote = record { parts = []; calls = refl; whole = refl }; plain = plain }

pub loop-note-preserved : goal.loop-note-preserved
loop-note-preserved g c = λ plain.
    let so_far = c.loop-note.invariant plain in
    has_written_of_eq _ _ _ _ _ (one-more note_data _ c.loop-note.note-index c.note-item.result c.loop-note-test.true c.note-item.is)
    (has_written_append _ _ _ _ _ _ so_far (c.in_ok-write-2.ensures.writes so_far.plain refl))

pub returns-clause-writes : goal.returns-clause-writes
returns-clause-writes g c = λ plain ok.
    let begun = c.in_ok-write.ensures.writes plain refl in
    let so_far = c.loop-note.invariant begun.plain in
    has_written_of_eq _ _ _ _ _ (written_whole note_data c.args.self.now.0.now c.first-item.result c.loop-note.note-index c.in-len1-up.len_at_least c.first-item.is c.loop-note-test.false)
    (has_written_append _ _ _ _ _ _ (has_written_append _ _ _ _ _ _ begun so_far) (c.write_str-2.ensures.writes so_far.plain ok))
