use Rattle.meson_flow_order.proofs.Below.{joined_keeps}
use Rattle.meson_flow_order.proofs.KeptOrder.{added_keeps, assigned_keeps, one_more_left_out, touched_keeps}
use Rattle.meson_flow_order.proofs.laws.steps_keep.Goals as goal

pub returns-clause-joined : goal.returns-clause-joined
returns-clause-joined c = joined_keeps

pub returns-clause-touched : goal.returns-clause-touched
returns-clause-touched c = touched_keeps

pub returns-clause-added : goal.returns-clause-added
returns-clause-added c = added_keeps

pub returns-clause-assigned : goal.returns-clause-assigned
returns-clause-assigned c = assigned_keeps

pub returns-clause-left_out : goal.returns-clause-left_out
returns-clause-left_out c = one_more_left_out
