use Rattle.meson_sources.specs.SourceEdits.{renaming}
use Rattle.meson_sources.proofs.renaming.renamings.Given as goal
use Rattle.meson_sources.proofs.Words.{drop, map, Some, ◌++◌, ◌≡◌, bare, spot_view}

abbrev pub invariant-loop-i : goal.invariant-loop-i
invariant-loop-i l = map Some l.steps.items ++ map bare (map (renaming l.name) (map spot_view (drop l.i l.spots))) ≡ map bare (map (renaming l.name) (map spot_view l.spots))
