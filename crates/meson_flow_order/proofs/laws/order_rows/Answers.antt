use Rattle.meson_flow_order.proofs.Rows.{either_is_above, none_is_overlooked, sure_says_more, unset_is_apart}
use Rattle.meson_flow_order.proofs.laws.order_rows.Goals as goal

pub returns-clause-either_is_above : goal.returns-clause-either_is_above
returns-clause-either_is_above c = either_is_above

pub returns-clause-sure_says_more : goal.returns-clause-sure_says_more
returns-clause-sure_says_more c = sure_says_more

pub returns-clause-none_is_overlooked : goal.returns-clause-none_is_overlooked
returns-clause-none_is_overlooked c = none_is_overlooked

pub returns-clause-unset_is_apart : goal.returns-clause-unset_is_apart
returns-clause-unset_is_apart c = unset_is_apart
