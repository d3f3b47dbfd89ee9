use Rattle.meson_variables.proofs.Words.{◌≡◌, take, false, note_views, has_unknown}
use Rattle.meson_variables.proofs.unknown_setters.all_known.Given as goal

abbrev pub invariant-loop-i : goal.invariant-loop-i
invariant-loop-i l = has_unknown l.files (note_views (take l.i l.notes)) ≡ false
