use Rattle.std.proofs.Common.{◌≡◌, ◌++◌, drop, map}
use Rattle.std.specs.Prelude.{filter}
use Rattle.meson_explaining.specs.Followed.{is_absent}
use Rattle.meson_explaining.specs.Sources.{missing_note}
use Rattle.meson_explaining.proofs.followed.all_absent.Given as goal

abbrev pub invariant-loop-i : goal.invariant-loop-i
invariant-loop-i l =
    l.notes.items ++ map missing_note (filter (is_absent l.project l.target) (drop l.i l.names)) ≡ map missing_note (filter (is_absent l.project l.target) l.names)
