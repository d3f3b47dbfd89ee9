use Rattle.std.proofs.Common.{◌≡◌, drop}
use Rattle.std.specs.Prelude.{find}
use Rattle.meson_explaining.specs.Names.{is_bad_option}
use Rattle.meson_explaining.proofs.names.first_bad_option.Given as goal

abbrev pub invariant-loop-i : goal.invariant-loop-i
invariant-loop-i l = find is_bad_option (drop l.i l.names) ≡ find is_bad_option l.names
