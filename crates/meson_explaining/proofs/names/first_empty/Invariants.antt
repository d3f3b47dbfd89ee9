use Rattle.std.proofs.Common.{◌≡◌, drop}
use Rattle.std.specs.Prelude.{find}
use Rattle.meson_explaining.specs.Names.{is_empty_name}
use Rattle.meson_explaining.proofs.names.first_empty.Given as goal

abbrev pub invariant-loop-i : goal.invariant-loop-i
invariant-loop-i l = find is_empty_name (drop l.i l.names) ≡ find is_empty_name l.names
