use Rattle.meson_targets.proofs.AddedTargets.{added-targets-are-named}
use Rattle.meson_targets.proofs.laws.added_targets_are_named.Goals as goal

pub returns : goal.returns
returns c = added-targets-are-named
