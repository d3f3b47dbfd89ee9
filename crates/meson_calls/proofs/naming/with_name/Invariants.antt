use Rattle.meson_calls.proofs.Words.{◌≡◌, ◌++◌, drop, places_that, note_has_name, note_views}
use Rattle.meson_calls.proofs.naming.with_name.Given as goal

abbrev pub invariant-loop-i : goal.invariant-loop-i
invariant-loop-i l = l.found.items ++ places_that (note_has_name l.role l.id) (note_views (drop l.i l.notes)) ≡ places_that (note_has_name l.role l.id) (note_views l.notes)
