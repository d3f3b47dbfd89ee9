use Rattle.std.proofs.Common.{◌≡◌, ◌++◌, drop, map, string_bytes}
use Rattle.std.specs.List.{flat_map}
use Rattle.meson_calls.specs.Notes.{note_view}
use Rattle.meson_entering.specs.Code.{file_view}
use Rattle.meson_entering.specs.Entering.{note_enters}
use Rattle.meson_entering.proofs.entering.entered_by.Given as goal

abbrev pub invariant-loop-i : goal.invariant-loop-i
invariant-loop-i l =
    map string_bytes l.names.items ++ flat_map (λ n. note_enters l.reading (file_view l.file) (note_view n)) (drop l.i l.notes.items)
    ≡ flat_map (λ n. note_enters l.reading (file_view l.file) (note_view n)) l.notes.items
