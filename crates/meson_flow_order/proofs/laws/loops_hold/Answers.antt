use Rattle.meson_flow_order.proofs.KeptOrder.{blocks_add_the_same, loops_hold}
use Rattle.meson_flow_order.proofs.laws.loops_hold.Goals as goal

pub returns-clause-blocks_add_the_same : goal.returns-clause-blocks_add_the_same
returns-clause-blocks_add_the_same c = blocks_add_the_same

pub returns-clause-in_turns : goal.returns-clause-in_turns
returns-clause-in_turns c = loops_hold
