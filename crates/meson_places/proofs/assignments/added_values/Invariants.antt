use Rattle.std.proofs.Common.{◌≡◌, ◌++◌, drop}
use Rattle.meson_calls.specs.Notes.{note_views}
use Rattle.meson_places.specs.Assignments.{added_values}
use Rattle.meson_places.proofs.assignments.added_values.Given as goal

abbrev pub invariant-loop-i : goal.invariant-loop-i
invariant-loop-i l = l.found.items ++ added_values l.name (note_views (drop l.i l.notes)) ≡ added_values l.name (note_views l.notes)
