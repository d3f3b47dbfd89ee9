use Rattle.std.proofs.Output.{has_written_of_eq}
use Rattle.meson_rewrite.proofs.NoteTexts.{with-place, without-place}
use Rattle.meson_rewrite.proofs.notes.PlacedNoteDisplay.fmt.Goals as goal

pub returns-in-Some-clause-writes : goal.returns-in-Some-clause-writes
returns-in-Some-clause-writes g c = λ plain ok. has_written_of_eq _ _ _ _ _ (with-place c.args.self.now c.in-Some.place c.in-Some.is) (c.write.ensures.writes plain ok)

pub returns-in-None-clause-writes : goal.returns-in-None-clause-writes
returns-in-None-clause-writes g c = λ plain ok. has_written_of_eq _ _ _ _ _ (without-place c.args.self.now c.in-None.is) (c.write-in-None.ensures.writes plain ok)
