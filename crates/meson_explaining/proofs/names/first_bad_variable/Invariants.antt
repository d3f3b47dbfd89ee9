use Rattle.std.proofs.Common.{◌≡◌, drop}
use Rattle.std.specs.Prelude.{find}
use Rattle.meson_explaining.specs.Names.{is_bad_variable}
use Rattle.meson_explaining.proofs.names.first_bad_variable.Given as goal

abbrev pub invariant-loop-i : goal.invariant-loop-i
invariant-loop-i l = find is_bad_variable (drop l.i l.texts) ≡ find is_bad_variable l.texts
