use Rattle.std.proofs.Common.{◌≡◌, drop, map}
use Rattle.std.specs.List.{list_any}
use Rattle.meson_sources.specs.Effects.{same_spot}
use Rattle.meson_sources.specs.inside.CodeSpots.{spot_view}
use Rattle.meson_followed.proofs.removing.has_spot.Given as goal

abbrev pub invariant-loop-other : goal.invariant-loop-other
invariant-loop-other l =
    list_any (same_spot (spot_view l.spot)) (map spot_view (drop l.other-index l.spots)) ≡ list_any (same_spot (spot_view l.spot)) (map spot_view l.spots)
