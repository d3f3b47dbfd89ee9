use Rattle.meson_calls.proofs.Words.{◌≡◌, take, map, note_views, ranged_view}
use Rattle.meson_calls.proofs.taken.Taken.all.Given as goal

abbrev pub invariant-loop-i : goal.invariant-loop-i
invariant-loop-i l = note_views l.all.items ≡ map (ranged_view l.self.steps.items) (take l.i l.self.notes.items)
