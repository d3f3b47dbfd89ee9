use Rattle.meson_edit.proofs.kept.Swap.{lists-swap}
use Rattle.meson_edit.proofs.trees.swapping.Goals as goal

pub returns : goal.returns
returns c = record { lists_swap = lists-swap }
