use Rattle.std.proofs.Common.{◌≡◌, drop}
use Rattle.std.specs.Prelude.{find}
use Rattle.meson_explaining.specs.Sources.{is_missing}
use Rattle.meson_explaining.proofs.sources.first_missing.Given as goal

abbrev pub invariant-loop-i : goal.invariant-loop-i
invariant-loop-i l = find (is_missing l.items) (drop l.i l.names) ≡ find (is_missing l.items) l.names
