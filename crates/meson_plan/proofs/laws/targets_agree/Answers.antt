use Rattle.meson_plan.proofs.Agreeing.{targets_agree}
use Rattle.meson_plan.proofs.laws.targets_agree.Goals as goal

pub returns : goal.returns
returns c = targets_agree
