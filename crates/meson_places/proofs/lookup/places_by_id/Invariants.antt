use Rattle.std.proofs.Common.{◌≡◌, ◌++◌, drop}
use Rattle.meson_calls.specs.Notes.{note_views}
use Rattle.meson_places.specs.Names.{places_by_id}
use Rattle.meson_places.proofs.lookup.places_by_id.Given as goal

abbrev pub invariant-loop-i : goal.invariant-loop-i
invariant-loop-i l = l.found.items ++ places_by_id l.name (note_views (drop l.i l.notes)) ≡ places_by_id l.name (note_views l.notes)
