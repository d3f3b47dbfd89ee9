-- Where a new element is inserted: `left`, `own` and `right` are the items before, of and after the element that it follows.
use Rattle.std.specs.Prelude.{ℕ, zero, suc, List, [], ◌∷◌, ◌++◌, take, drop, if◌then◌else◌, Option, Some, None}
use Rattle.meson_lex.specs.Items.{Lexeme}
use Rattle.meson_layout.specs.Looks.{last_few, line_before, note_len, comma_note_len, closing_follows}
use Rattle.meson_layout.specs.Pieces.{Piece, Keep, Change, comma, space}

-- The list has no element: directly after its bracket.
abbrev pub first : List Lexeme → List Lexeme → List Lexeme → List Piece
first left right new = Keep left ∷ Change [] new ∷ Keep right ∷ []

-- Directly after the element.
abbrev pub plain_insertion : List Lexeme → List Lexeme → List Lexeme → List Lexeme → List Piece
plain_insertion left own right new = Keep left ∷ Keep own ∷ Change [] (comma ∷ space ∷ new) ∷ Keep right ∷ []

-- Stacked: the element is first on its line, and `line` is the line end before it with its indent.

-- A comma follows on the line, and the line ends after n items: before that line end.
abbrev pub with_comma : ℕ → List Lexeme → List Lexeme → List Lexeme → List Lexeme → List Lexeme → List Piece
with_comma n left own right line new = Keep left ∷ Keep own ∷ Keep (take n right) ∷ Change [] (line ++ (new ++ comma ∷ [])) ∷ Keep (drop n right) ∷ []

-- No comma follows, and the line ends after n items: a comma after the element, the rest before that line end. It is one splice if both places are one.
abbrev pub without_comma : ℕ → List Lexeme → List Lexeme → List Lexeme → List Lexeme → List Lexeme → List Piece
without_comma zero left own right line new = Keep left ∷ Keep own ∷ Change [] (comma ∷ (line ++ new)) ∷ Keep right ∷ []
without_comma (suc n) left own right line new = Keep left ∷ Keep own ∷ Change [] (comma ∷ []) ∷ Keep (take (suc n) right) ∷ Change [] (line ++ new)
    ∷ Keep (drop (suc n) right) ∷ []

-- The list's closing bracket follows: directly after the element.
abbrev pub before_bracket : List Lexeme → List Lexeme → List Lexeme → List Lexeme → List Lexeme → List Piece
before_bracket left own right line new = Keep left ∷ Keep own ∷ Change [] (comma ∷ (line ++ new)) ∷ Keep right ∷ []

abbrev pub no_comma_on_line : Option ℕ → List Lexeme → List Lexeme → List Lexeme → List Lexeme → List Lexeme → List Piece
no_comma_on_line (Some n) left own right line new = without_comma n left own right line new
no_comma_on_line None left own right line new = if closing_follows right then before_bracket left own right line new else plain_insertion left own right new

abbrev pub stacked : Option ℕ → List Lexeme → List Lexeme → List Lexeme → List Lexeme → List Lexeme → List Piece
stacked (Some n) left own right line new = with_comma n left own right line new
stacked None left own right line new = no_comma_on_line (note_len right) left own right line new

abbrev pub inserted_by : Option ℕ → List Lexeme → List Lexeme → List Lexeme → List Lexeme → List Piece
inserted_by (Some n) left own right new = stacked (comma_note_len right) left own right (last_few (suc n) left) new
inserted_by None left own right new = plain_insertion left own right new

unfoldable pub inserted : List Lexeme → List Lexeme → List Lexeme → List Lexeme → List Piece
inserted left own right new = inserted_by (line_before left) left own right new
