use Rattle.std.proofs.Common.{◌≡◌, drop}
use Rattle.std.specs.List.{list_all}
use Rattle.meson_places.specs.inside.Found.{is_known}
use Rattle.meson_places.proofs.known.are_known.Given as goal

abbrev pub invariant-loop-i : goal.invariant-loop-i
invariant-loop-i l = list_all (is_known l.source l.known) (drop l.i l.values) ≡ list_all (is_known l.source l.known) l.values
