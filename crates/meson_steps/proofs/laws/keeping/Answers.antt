use Rattle.meson_steps.proofs.Keeping.{making_keeps}
use Rattle.meson_steps.proofs.laws.keeping.Goals as goal

pub returns : goal.returns
returns c = record { making_keeps = making_keeps }
