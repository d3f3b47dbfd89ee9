use Rattle.meson_calls.proofs.PartsOrdered.{parts_in_order}
use Rattle.meson_calls.proofs.laws.parts_in_order.Goals as goal

pub returns : goal.returns
returns c = parts_in_order
