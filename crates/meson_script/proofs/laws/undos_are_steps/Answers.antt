use Rattle.meson_script.proofs.Undos.{undos-are-steps}
use Rattle.meson_script.proofs.laws.undos_are_steps.Goals as goal

pub returns : goal.returns
returns c = undos-are-steps
