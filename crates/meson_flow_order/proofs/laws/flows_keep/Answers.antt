use Rattle.meson_flow_order.proofs.KeptOrder.{blocks_keep, either_keeps, files_keep, statements_keep, then_keeps}
use Rattle.meson_flow_order.proofs.laws.flows_keep.Goals as goal

pub returns-clause-either : goal.returns-clause-either
returns-clause-either c = either_keeps

pub returns-clause-in_turn : goal.returns-clause-in_turn
returns-clause-in_turn c = then_keeps

pub returns-clause-statements : goal.returns-clause-statements
returns-clause-statements c = statements_keep

pub returns-clause-blocks : goal.returns-clause-blocks
returns-clause-blocks c = blocks_keep

pub returns-clause-files : goal.returns-clause-files
returns-clause-files c = files_keep
