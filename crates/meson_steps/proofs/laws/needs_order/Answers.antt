use Rattle.meson_steps.proofs.Points.{needs_order}
use Rattle.meson_steps.proofs.laws.needs_order.Goals as goal

pub returns : goal.returns
returns c = needs_order
