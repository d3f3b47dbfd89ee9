-- The items of pieces before and after.
use Rattle.std.specs.Prelude.{List, [], ◌∷◌, ◌++◌}
use Rattle.meson_lex.specs.Items.{Lexeme}
use Rattle.meson_layout.specs.Pieces.{Piece, Change, Keep}

abbrev pub old_items : List Piece → List Lexeme
old_items [] = []
old_items (Keep xs ∷ ps) = xs ++ old_items ps
old_items (Change was now ∷ ps) = was ++ old_items ps

abbrev pub new_items : List Piece → List Lexeme
new_items [] = []
new_items (Keep xs ∷ ps) = xs ++ new_items ps
new_items (Change was now ∷ ps) = now ++ new_items ps
