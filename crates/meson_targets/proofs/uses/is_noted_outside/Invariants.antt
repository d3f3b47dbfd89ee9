use Rattle.meson_targets.proofs.Words.{◌≡◌, take, false, note_views, place_view, is_noted_outside}
use Rattle.meson_targets.proofs.uses.is_noted_outside.Given as goal

abbrev pub invariant-loop-i : goal.invariant-loop-i
invariant-loop-i l = is_noted_outside (place_view l.line) l.name (note_views (take l.i l.notes)) ≡ false
