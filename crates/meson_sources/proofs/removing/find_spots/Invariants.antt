use Rattle.meson_sources.proofs.removing.find_spots.Given as goal
use Rattle.meson_sources.proofs.Words.{◌||◌, drop, map, ◌≡◌, all_there, before_all, is_some_there, spot_view, spots_at, spots_in}

abbrev pub invariant-loop-i : goal.invariant-loop-i
invariant-loop-i l =
    (before_all (map spot_view l.spots.items) (all_there (spots_at l.name (drop l.i l.marks.items.items) (drop l.i l.marks.numbers.items)))
    ≡ before_all (map spot_view l.initial.spots.items) (all_there (spots_in l.marks l.name)))
    × ((l.found || is_some_there (spots_at l.name (drop l.i l.marks.items.items) (drop l.i l.marks.numbers.items)))
    ≡ is_some_there (spots_in l.marks l.name))
