use Rattle.std.proofs.Common.{◌≡◌, drop}
use Rattle.std.specs.List.{list_any}
use Rattle.meson_places.specs.Equality.{same_given}
use Rattle.meson_places.proofs.equality.is_given.Given as goal

abbrev pub invariant-loop-i : goal.invariant-loop-i
invariant-loop-i l = list_any (same_given l.given) (drop l.i l.before) ≡ list_any (same_given l.given) l.before
