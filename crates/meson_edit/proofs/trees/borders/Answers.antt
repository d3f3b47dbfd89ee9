use Rattle.meson_edit.proofs.borders.Files.{trees-end, lists-end}
use Rattle.meson_edit.proofs.trees.borders.Goals as goal

pub returns : goal.returns
returns c = record { trees_end = trees-end; lists_end = lists-end }
