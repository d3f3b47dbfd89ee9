use Rattle.meson_sources.proofs.removing.number_without.Given as goal
use Rattle.meson_sources.proofs.Words.{count_by, drop, map, ◌+◌, ◌≡◌, ◌≤◌, place_at, is_before, spot_view}

abbrev pub invariant-loop-i : goal.invariant-loop-i
invariant-loop-i l =
    (l.before ≤ l.i)
    × (l.before + count_by (is_before (place_at l.list) l.number) (map spot_view (drop l.i l.gone)) ≡ count_by (is_before (place_at l.list) l.number) (map spot_view l.gone))
