-- What is removed along with a statement, and where a new one is inserted.
use Rattle.std.specs.Prelude.{Bool, true, List, [], ◌∷◌, ◌++◌, reverse, if◌then◌else◌}
use Rattle.meson_lex.specs.Items.{Lexeme}
use Rattle.meson_layout.specs.Looks.{is_line_end}
use Rattle.meson_layout.specs.Pieces.{Piece, Keep, Change, line_feed}

-- nothing at all, or a line end (nearest first)
abbrev pub at_line_start : List Lexeme → Bool
at_line_start [] = true
at_line_start (x ∷ xs) = is_line_end x.kind

-- the first line end of a text, else LF
abbrev pub line_end_of : List Lexeme → Lexeme
line_end_of [] = line_feed
line_end_of (x ∷ xs) = if is_line_end x.kind then x else line_end_of xs

-- At the end, with a line end after it, and one before it if the text does not end its last line.
unfoldable pub appended : List Lexeme → List Lexeme → List Piece
appended items new =
    let line = line_end_of items in
    Keep items ∷ Change [] (if at_line_start (reverse items) then new ++ line ∷ [] else line ∷ (new ++ line ∷ [])) ∷ []
