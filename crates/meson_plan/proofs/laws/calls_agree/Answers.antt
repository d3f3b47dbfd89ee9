use Rattle.meson_plan.proofs.Agreeing.{calls_agree}
use Rattle.meson_plan.proofs.laws.calls_agree.Goals as goal

pub returns : goal.returns
returns c = calls_agree
