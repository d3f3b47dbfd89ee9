use Rattle.meson_calls.proofs.Words.{◌≡◌, ◌++◌, drop, assigned_places, note_views}
use Rattle.meson_calls.proofs.naming.assigned_to.Given as goal

abbrev pub invariant-loop-i : goal.invariant-loop-i
invariant-loop-i l = l.found.items ++ assigned_places l.role l.id (note_views (drop l.i l.notes)) ≡ assigned_places l.role l.id (note_views l.notes)
