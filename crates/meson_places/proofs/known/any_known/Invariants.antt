use Rattle.std.proofs.Common.{◌≡◌, drop}
use Rattle.std.specs.List.{list_any}
use Rattle.meson_places.specs.inside.Found.{is_known}
use Rattle.meson_places.proofs.known.any_known.Given as goal

abbrev pub invariant-loop-i : goal.invariant-loop-i
invariant-loop-i l = list_any (is_known l.source l.known) (drop l.i l.values) ≡ list_any (is_known l.source l.known) l.values
