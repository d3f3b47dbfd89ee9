use Rattle.meson_flow_order.proofs.Below.{below_in_turn, below_itself}
use Rattle.meson_flow_order.proofs.laws.is_order.Goals as goal

pub returns-clause-itself : goal.returns-clause-itself
returns-clause-itself c = below_itself

pub returns-clause-in_turn : goal.returns-clause-in_turn
returns-clause-in_turn c = below_in_turn

pub returns-clause-none_is_least : goal.returns-clause-none_is_least
returns-clause-none_is_least c = λ l. tt
