use Rattle.meson_plan.proofs.CommandsLeave.{commands-leave}
use Rattle.meson_plan.proofs.laws.commands_leave.Goals as goal

pub returns : goal.returns
returns c = commands-leave
