use Rattle.meson_plan.proofs.Agreeing.{targets_listed}
use Rattle.meson_plan.proofs.laws.targets_listed.Goals as goal

pub returns : goal.returns
returns c = targets_listed
