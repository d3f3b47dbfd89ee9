use Rattle.meson_edit.proofs.kept.Each.{nodes-map, lists-map}
use Rattle.meson_edit.proofs.trees.mapped.Goals as goal

pub returns : goal.returns
returns c = record { nodes_map = nodes-map; lists_map = lists-map }
