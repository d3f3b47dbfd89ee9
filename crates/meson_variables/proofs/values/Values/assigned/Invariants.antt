use Rattle.meson_variables.proofs.Words.{◌≡◌, ℕ, List, drop, note_views, met_in, taken, assigned_notes}
use Rattle.meson_variables.proofs.Assignments.{resumed}
use Rattle.meson_variables.proofs.values.Values.assigned.Given as goal

abbrev pub invariant-loop-i : goal.invariant-loop-i
invariant-loop-i l = (x : List ℕ) → resumed (met_in l.values x) (assigned_notes x (note_views (drop l.i l.notes))) ≡ taken (assigned_notes x (note_views l.notes))
