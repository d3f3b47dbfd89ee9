use Rattle.meson_plan.proofs.Agreeing.{calls_listed}
use Rattle.meson_plan.proofs.laws.calls_listed.Goals as goal

pub returns : goal.returns
returns c = calls_listed
