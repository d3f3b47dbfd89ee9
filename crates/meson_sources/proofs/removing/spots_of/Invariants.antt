use Rattle.meson_sources.proofs.removing.spots_of.Given as goal
use Rattle.meson_sources.proofs.Words.{drop, map, ◌≡◌, all_spots_in, joined_spots, spot_view}

abbrev pub invariant-loop-i : goal.invariant-loop-i
invariant-loop-i l =
    joined_spots (map spot_view l.spots.items) (all_spots_in l.marks (map (λ x. x.now) (drop l.i l.names)))
    ≡ all_spots_in l.marks (map (λ x. x.now) l.names)
