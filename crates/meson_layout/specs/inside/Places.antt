-- An element or a statement among the items of a file, as the code holds it.
use Rattle.std.specs.Prelude.{◌+◌, ◌<◌, ◌^◌, List, length}
use Rattle.meson_lex.specs.Items.{Lexeme, joined}
use Rattle.meson_layout.specs.declared.place.Place.{Place}

-- the file's offsets fit, and one more
abbrev pub PlaceFits : Place → Type 0
PlaceFits p = length (joined p.left.now) + (length (joined p.own.now) + length (joined p.right.now)) + 1 < 2 ^ 64

-- the pieces of a place
abbrev pub at_place : {A : Type 0} → (List Lexeme → List Lexeme → List Lexeme → A) → Place → A
at_place f p = f p.left.now p.own.now p.right.now
