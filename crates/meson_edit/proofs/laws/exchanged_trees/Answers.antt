use Rattle.meson_edit.proofs.paths.ExchangedTrees.{old-lists-look, trees-exchange, trees-exchange-back}
use Rattle.meson_edit.proofs.laws.exchanged_trees.Goals as goal

pub returns : goal.returns
returns c = record { exchange = trees-exchange; old = old-lists-look; back = trees-exchange-back }
