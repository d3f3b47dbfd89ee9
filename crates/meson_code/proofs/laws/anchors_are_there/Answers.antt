use Rattle.meson_code.proofs.AnchorsFound.{anchors_are_there}
use Rattle.meson_code.proofs.laws.anchors_are_there.Goals as goal

pub returns : goal.returns
returns c = anchors_are_there
