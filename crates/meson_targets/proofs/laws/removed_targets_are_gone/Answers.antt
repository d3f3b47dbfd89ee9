use Rattle.meson_targets.proofs.RemovedTargets.{removed-targets-are-gone}
use Rattle.meson_targets.proofs.laws.removed_targets_are_gone.Goals as goal

pub returns : goal.returns
returns c = removed-targets-are-gone
