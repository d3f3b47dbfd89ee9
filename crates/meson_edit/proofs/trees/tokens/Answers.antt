use Rattle.meson_edit.proofs.kept.Tokens.{tokens-move}
use Rattle.meson_edit.proofs.trees.tokens.Goals as goal

pub returns : goal.returns
returns c = record { tokens_move = tokens-move }
