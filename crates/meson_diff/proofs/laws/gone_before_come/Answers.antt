use Rattle.meson_diff.proofs.Order.{gone_before_come}
use Rattle.meson_diff.proofs.laws.gone_before_come.Goals as goal

pub returns : goal.returns
returns c = gone_before_come
