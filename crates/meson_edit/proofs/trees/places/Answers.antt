use Rattle.meson_edit.proofs.places.Standing.{nodes-stand, lists-stand}
use Rattle.meson_edit.proofs.trees.places.Goals as goal

pub returns : goal.returns
returns c = record { nodes_stand = nodes-stand; lists_stand = lists-stand }
