use Rattle.meson_code.proofs.AnchorsFound.{anchors_are_on_line}
use Rattle.meson_code.proofs.laws.anchors_are_on_line.Goals as goal

pub returns : goal.returns
returns c = anchors_are_on_line
