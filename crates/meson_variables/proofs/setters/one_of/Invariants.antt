use Rattle.meson_variables.proofs.Words.{◌≡◌, take, false, names_at, one_of_names}
use Rattle.meson_variables.proofs.setters.one_of.Given as goal

abbrev pub invariant-loop-i : goal.invariant-loop-i
invariant-loop-i l = one_of_names (names_at l.source (take l.i l.spans)) l.name ≡ false
