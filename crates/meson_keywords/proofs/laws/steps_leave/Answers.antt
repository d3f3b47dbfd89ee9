use Rattle.meson_keywords.proofs.StepsLeave.{steps-leave}
use Rattle.meson_keywords.proofs.laws.steps_leave.Goals as goal

pub returns : goal.returns
returns c = steps-leave
