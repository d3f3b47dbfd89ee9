use Rattle.meson_edit.proofs.kept.Elements.{elements-stay}
use Rattle.meson_edit.proofs.trees.elements.Goals as goal

pub returns : goal.returns
returns c = record { elements_stay = elements-stay }
