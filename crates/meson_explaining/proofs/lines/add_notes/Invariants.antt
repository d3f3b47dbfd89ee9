use Rattle.std.proofs.Common.{◌≡◌, ◌++◌, drop}
use Rattle.std.specs.Prelude.{flat_map, string_bytes}
use Rattle.meson_explaining.specs.Lines.{marked_line}
use Rattle.meson_explaining.proofs.lines.add_notes.Given as goal

abbrev pub invariant-loop-note : goal.invariant-loop-note
invariant-loop-note l =
    string_bytes l.lines ++ flat_map (marked_line l.word l.files) (drop l.note-index l.notes) ≡ string_bytes l.initial.lines ++ flat_map (marked_line l.word l.files) l.notes
