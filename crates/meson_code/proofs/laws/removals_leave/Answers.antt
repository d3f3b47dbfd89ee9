use Rattle.meson_code.proofs.Removals.{removals_leave}
use Rattle.meson_code.proofs.laws.removals_leave.Goals as goal

pub returns : goal.returns
returns c = removals_leave
