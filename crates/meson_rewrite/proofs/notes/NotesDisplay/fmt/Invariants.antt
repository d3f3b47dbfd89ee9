use Rattle.std.proofs.Common.{take}
use Rattle.std.specs.Fmt.{HasWritten, IsPlainFormatter}
use Rattle.std.specs.List.{flat_map}
use Rattle.meson_rewrite.proofs.TextArrays.{next_item}
use Rattle.meson_rewrite.specs.Notes.{note_data}
use Rattle.meson_rewrite.proofs.notes.NotesDisplay.fmt.Given as goal

abbrev pub invariant-loop-note : goal.invariant-loop-note
invariant-loop-note g l = IsPlainFormatter l.initial.f → HasWritten g.W.Write.write_str_gives l.initial.f (flat_map (next_item note_data) (take l.note-index l.rest)) l.f
