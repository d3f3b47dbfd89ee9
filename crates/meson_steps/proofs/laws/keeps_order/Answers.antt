use Rattle.meson_steps.proofs.Points.{keeps_order}
use Rattle.meson_steps.proofs.laws.keeps_order.Goals as goal

pub returns : goal.returns
returns c = keeps_order
