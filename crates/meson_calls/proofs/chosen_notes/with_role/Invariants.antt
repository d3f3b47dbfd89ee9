use Rattle.meson_calls.proofs.Words.{◌≡◌, ◌++◌, drop, places_with_role, note_views}
use Rattle.meson_calls.proofs.chosen_notes.with_role.Given as goal

abbrev pub invariant-loop-i : goal.invariant-loop-i
invariant-loop-i l = l.found.items ++ places_with_role l.role (note_views (drop l.i l.notes)) ≡ places_with_role l.role (note_views l.notes)
