use Rattle.meson_calls.proofs.Words.{◌≡◌, drop, note_views, any_sets_by_call}
use Rattle.meson_calls.proofs.kept.any_sets_by_call.Given as goal

abbrev pub invariant-loop-i : goal.invariant-loop-i
invariant-loop-i l = any_sets_by_call (note_views (drop l.i l.notes)) ≡ any_sets_by_call (note_views l.notes)
