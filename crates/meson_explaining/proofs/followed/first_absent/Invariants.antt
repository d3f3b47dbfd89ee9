use Rattle.std.proofs.Common.{◌≡◌, drop}
use Rattle.std.specs.Prelude.{find}
use Rattle.meson_explaining.specs.Followed.{is_absent}
use Rattle.meson_explaining.proofs.followed.first_absent.Given as goal

abbrev pub invariant-loop-i : goal.invariant-loop-i
invariant-loop-i l = find (is_absent l.project l.target) (drop l.i l.names) ≡ find (is_absent l.project l.target) l.names
