use Rattle.meson_targets.proofs.Words.{◌≡◌, take, false, place_view, is_read_outside}
use Rattle.meson_targets.proofs.uses.is_read_outside.Given as goal

abbrev pub invariant-loop-i : goal.invariant-loop-i
invariant-loop-i l = is_read_outside (place_view l.line) (take l.i l.places) ≡ false
