-- Positions in a text, as the language server protocol counts them.
use Rattle.std.specs.Prelude.{ℕ, ◌+◌, ◌&&◌, List, [], ◌∷◌, ◌==◌, if◌then◌else◌, nat_lt, take}
use Rattle.meson_ranges.specs.declared.positions.Position.{Position}

-- the number of UTF-16 code units of the character that a byte of UTF-8 begins: none where the byte continues a character,
-- two where it begins a character of four bytes
abbrev pub units_of : ℕ → ℕ
units_of b = if nat_lt 127 b && nat_lt b 192 then 0 else if nat_lt 239 b then 2 else 1

-- the number of UTF-16 code units of a text
abbrev pub units : List ℕ → ℕ
units [] = 0
units (b ∷ text) = units_of b + units text

-- the position at which a text begins
abbrev pub start : Position
start = record { line = 0; character = 0 }

-- the position after a byte that is at that position
abbrev pub position_after_byte : Position → ℕ → Position
position_after_byte p b = if b == 10 then record { line = p.line + 1; character = 0 } else record { line = p.line; character = p.character + units_of b }

-- the position after a text that begins at that position
abbrev pub position_after : Position → List ℕ → Position
position_after p [] = p
position_after p (b ∷ text) = position_after (position_after_byte p b) text

-- the position of an offset
abbrev pub position_of : List ℕ → ℕ → Position
position_of text offset = position_after start (take offset text)
