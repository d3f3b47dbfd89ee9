use Rattle.meson_plan.proofs.Agreeing.{values_listed}
use Rattle.meson_plan.proofs.laws.values_listed.Goals as goal

pub returns : goal.returns
returns c = values_listed
