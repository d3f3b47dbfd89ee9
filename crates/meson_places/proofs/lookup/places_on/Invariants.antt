use Rattle.std.proofs.Common.{◌≡◌, ◌++◌, drop}
use Rattle.meson_calls.specs.Notes.{note_views}
use Rattle.meson_places.specs.Names.{places_on}
use Rattle.meson_places.proofs.lookup.places_on.Given as goal

abbrev pub invariant-loop-i : goal.invariant-loop-i
invariant-loop-i l = l.found.items ++ places_on l.files l.file l.line (note_views (drop l.i l.notes)) ≡ places_on l.files l.file l.line (note_views l.notes)
