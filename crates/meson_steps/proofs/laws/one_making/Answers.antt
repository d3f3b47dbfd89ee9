use Rattle.meson_steps.proofs.OneMaking.{one-making}
use Rattle.meson_steps.proofs.OneStanding.{one_standing}
use Rattle.meson_steps.proofs.laws.one_making.Goals as goal

pub returns : goal.returns
returns c = record { one_making = one-making; one_standing = one_standing }
