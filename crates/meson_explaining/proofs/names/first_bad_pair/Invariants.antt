use Rattle.std.proofs.Common.{◌≡◌, drop}
use Rattle.std.specs.Prelude.{find}
use Rattle.meson_explaining.specs.Names.{is_bad_pair}
use Rattle.meson_explaining.proofs.names.first_bad_pair.Given as goal

abbrev pub invariant-loop-i : goal.invariant-loop-i
invariant-loop-i l = find (is_bad_pair l.role) (drop l.i l.pairs) ≡ find (is_bad_pair l.role) l.pairs
