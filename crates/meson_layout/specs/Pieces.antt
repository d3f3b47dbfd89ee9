-- What an edit does to the items of a text, from left to right, and the splices that do it.
use Rattle.std.specs.Prelude.{ℕ, ◌+◌, List, [], ◌∷◌, length}
use Rattle.meson_lex.specs.declared.kinds.Kind.TheVariants.{Blank, Comma, Identifier, LineEnd, OpenSquare, CloseSquare}
use Rattle.meson_lex.specs.Items.{Lexeme, joined}
use Rattle.meson_splice.specs.declared.splice.Splice.{Splice}

-- items that stay, or items that are replaced
pub data Piece : Type 0 where
  Keep : List Lexeme → Piece
  Change : List Lexeme → List Lexeme → Piece

-- One splice for each change, if the first piece begins at the offset. Each splice's offset counts in the text that the ones before it left.
abbrev pub splices : List ℕ → ℕ → List Piece → List Splice
splices file at [] = []
splices file at (Keep xs ∷ ps) = splices file (at + length (joined xs)) ps
splices file at (Change was now ∷ ps) = record { file = file; at = at; was = joined was; now = joined now } ∷ splices file (at + length (joined now)) ps

-- New bytes as one item. No layout looks at new text, so its kind does not matter.
abbrev pub as_one : List ℕ → List Lexeme
as_one bytes = record { kind = Identifier; text = bytes } ∷ []

-- ---- what is written beside it

abbrev pub comma : Lexeme
comma = record { kind = Comma; text = 44 ∷ [] }

abbrev pub space : Lexeme
space = record { kind = Blank; text = 32 ∷ [] }

abbrev pub line_feed : Lexeme
line_feed = record { kind = LineEnd; text = 10 ∷ [] }

abbrev pub open_square : Lexeme
open_square = record { kind = OpenSquare; text = 91 ∷ [] }

abbrev pub close_square : Lexeme
close_square = record { kind = CloseSquare; text = 93 ∷ [] }
