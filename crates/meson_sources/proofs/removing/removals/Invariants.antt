use Rattle.meson_sources.proofs.removing.removals.Given as goal
use Rattle.meson_sources.proofs.Words.{map, Some, ◌++◌, ◌≡◌, bare, removal_steps, spot_view}
use Rattle.meson_sources.proofs.commands.Removals.{steps_from}

abbrev pub invariant-loop-i : goal.invariant-loop-i
invariant-loop-i l = map Some l.steps.items ++ steps_from spot_view l.spots l.i ≡ map bare (removal_steps (map spot_view l.spots))
