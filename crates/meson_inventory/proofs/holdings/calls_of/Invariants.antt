use Rattle.std.proofs.Common.{◌≡◌, ◌++◌, drop}
use Rattle.meson_calls.specs.Notes.{note_views}
use Rattle.meson_calls.specs.ChosenNotes.{places_that}
use Rattle.meson_inventory.specs.inside.Holdings.{note_calls}
use Rattle.meson_inventory.proofs.holdings.calls_of.Given as goal

abbrev pub invariant-loop-i : goal.invariant-loop-i
invariant-loop-i l = l.found.items ++ places_that (note_calls l.function) (note_views (drop l.i l.notes)) ≡ places_that (note_calls l.function) (note_views l.notes)
