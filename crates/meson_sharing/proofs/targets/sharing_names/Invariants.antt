use Rattle.std.proofs.Common.{◌≡◌, ◌++◌, drop, map}
use Rattle.meson_sharing.specs.CodeTargets.{sharing_names, target_view}
use Rattle.meson_sharing.proofs.targets.sharing_names.Given as goal

abbrev pub invariant-loop-target : goal.invariant-loop-target
invariant-loop-target l =
    l.names.items ++ sharing_names l.call l.maker (map target_view (drop l.target-index l.targets)) ≡ sharing_names l.call l.maker (map target_view l.targets)
