use Rattle.meson_sources.proofs.removing.path_without.Given as goal
use Rattle.meson_sources.proofs.Words.{[], drop, map, take, ◌++◌, ◌≡◌, place, path_without, spot_view}

abbrev pub invariant-loop-depth : goal.invariant-loop-depth
invariant-loop-depth l =
    l.path.items ++ path_without (map spot_view l.gone) (place l.list.file (take l.depth l.list.path.now)) (drop l.depth l.list.path.now)
    ≡ path_without (map spot_view l.gone) (place l.list.file []) l.list.path.now
