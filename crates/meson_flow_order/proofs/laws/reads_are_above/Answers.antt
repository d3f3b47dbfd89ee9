use Rattle.meson_flow_order.proofs.ReadsAbove.{reads_are_above, reads_are_good, reads_keep}
use Rattle.meson_flow_order.proofs.laws.reads_are_above.Goals as goal

pub returns-clause-above : goal.returns-clause-above
returns-clause-above c = reads_are_above

pub returns-clause-good : goal.returns-clause-good
returns-clause-good c = reads_are_good

pub returns-clause-keep : goal.returns-clause-keep
returns-clause-keep c = reads_keep
