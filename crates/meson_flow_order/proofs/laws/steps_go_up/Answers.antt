use Rattle.meson_flow_order.proofs.Below.{first_below, joined_least, second_below}
use Rattle.meson_flow_order.proofs.KeptOrder.{stay_good, touched_above}
use Rattle.meson_flow_order.proofs.laws.steps_go_up.Goals as goal

pub returns-clause-joined_is_above : goal.returns-clause-joined_is_above
returns-clause-joined_is_above c = λ k l. (first_below k l, second_below k l)

pub returns-clause-joined_is_least : goal.returns-clause-joined_is_least
returns-clause-joined_is_least c = joined_least

pub returns-clause-touched_is_above : goal.returns-clause-touched_is_above
returns-clause-touched_is_above c = touched_above

pub returns-clause-stay_good : goal.returns-clause-stay_good
returns-clause-stay_good c = stay_good
