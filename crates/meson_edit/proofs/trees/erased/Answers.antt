use Rattle.meson_edit.proofs.paths.Erased.{nodes-erase, lists-erase, blocks-erase}
use Rattle.meson_edit.proofs.trees.erased.Goals as goal

pub returns : goal.returns
returns c = record { nodes_erase = nodes-erase; lists_erase = lists-erase; blocks_erase = blocks-erase }
