use Rattle.meson_code.proofs.Cleared.{unused_are_unneeded}
use Rattle.meson_code.proofs.laws.unused_are_unneeded.Goals as goal

pub returns : goal.returns
returns c = unused_are_unneeded
