use Rattle.std.proofs.Common.{◌≡◌, [], ◌++◌, map}
use Rattle.std.specs.Vec.Iter.{into_iter_items}
use Rattle.meson_sources.specs.inside.CodeSpots.{spot_view}
use Rattle.meson_followed.specs.CodeRemovals.{removal_view}
use Rattle.meson_followed.specs.FollowedEdits.{each_once}
use Rattle.meson_followed.proofs.removing.spots_of.Given as goal

abbrev pub invariant-loop-removal : goal.invariant-loop-removal
invariant-loop-removal l =
    let kept = map spot_view l.spots.items in
    kept ++ each_once kept (map (λ r. r.spot) (map removal_view (into_iter_items l.removal-iterator)))
    ≡ each_once [] (map (λ r. r.spot) (map removal_view l.fn.found.items))
