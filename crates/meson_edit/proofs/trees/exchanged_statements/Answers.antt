use Rattle.meson_edit.proofs.lines.Lists.{exchanged-stand, removal-exchanges, appending-exchanges, rows-computed}
use Rattle.meson_edit.proofs.trees.exchanged_statements.Goals as goal

pub returns : goal.returns
returns c = record { stand = exchanged-stand; removals = removal-exchanges; appending = appending-exchanges; computed = rows-computed }
