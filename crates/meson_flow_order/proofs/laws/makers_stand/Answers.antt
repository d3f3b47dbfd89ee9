use Rattle.meson_flow_order.proofs.AddAlike.{add_alike}
use Rattle.meson_flow_order.proofs.Standing.{makers_stand}
use Rattle.meson_flow_order.proofs.laws.makers_stand.Goals as goal

pub returns-clause-stand : goal.returns-clause-stand
returns-clause-stand c = makers_stand

pub returns-clause-alike : goal.returns-clause-alike
returns-clause-alike c = add_alike
