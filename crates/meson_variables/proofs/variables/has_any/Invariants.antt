use Rattle.meson_variables.proofs.Words.{◌≡◌, take, false, has_any}
use Rattle.meson_variables.proofs.variables.has_any.Given as goal

abbrev pub invariant-loop-i : goal.invariant-loop-i
invariant-loop-i l = has_any l.values (take l.i l.names) ≡ false
