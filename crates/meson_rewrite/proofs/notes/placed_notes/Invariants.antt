use Rattle.std.proofs.Common.{◌≡◌, map, take}
use Rattle.meson_rewrite.specs.Notes.{placed_note}
use Rattle.meson_rewrite.proofs.notes.placed_notes.Given as goal

abbrev pub invariant-loop-note : goal.invariant-loop-note
invariant-loop-note l = l.placed.items ≡ map (placed_note l.files) (take l.note-index l.notes)
