-- What holds of positions.
use Rattle.std.specs.Prelude.{◌≡◌, ◌⊎◌, ℕ, false, List, [], ◌∷◌, ◌++◌, ◌==◌, codes, count_by, take}
use Rattle.std.specs.List.{list_any}
use Rattle.meson_ranges.specs.Positions.{position_of, units}
use Rattle.meson_ranges.specs.declared.positions.Position.{Position}

-- a line begins after these bytes: there are none, or the last of them is a line feed
abbrev pub BeginsLine : List ℕ → Type 0
BeginsLine front = (front ≡ []) ⊎ ((more : List ℕ) × (front ≡ more ++ 10 ∷ []))

-- The bytes are whole lines, of which there are as many as the position's line says, and the beginning of one more line, which
-- has as many UTF-16 units as the position's character says.
pub record IsPositionAfter (bytes : List ℕ) (p : Position) : Type 0 where
  pub lines : List ℕ
  pub tail : List ℕ
  pub parts : bytes ≡ lines ++ tail
  pub begins_line : BeginsLine lines
  pub one_line : list_any (λ b. b == 10) tail ≡ false
  pub line : p.line ≡ count_by (λ b. b == 10) lines
  pub character : p.character ≡ units tail

-- the position of an offset is that after the bytes before it
abbrev pub RangesAreOffsets : Type 0
RangesAreOffsets = (text : List ℕ) (offset : ℕ) → IsPositionAfter (take offset text) (position_of text offset)

-- ---- computed rows

abbrev pub at : ℕ → ℕ → Position
at line character = record { line = line; character = character }

-- ä is written in two bytes, € in three, and the smiling face U+1F600 in four
abbrev pub a_umlaut : List ℕ
a_umlaut = 195 ∷ 164 ∷ []

abbrev pub euro : List ℕ
euro = 226 ∷ 130 ∷ 172 ∷ []

abbrev pub smile : List ℕ
smile = 240 ∷ 159 ∷ 152 ∷ 128 ∷ []

abbrev pub Rows : Type 0
Rows = (position_of [] 0 ≡ at 0 0)
    × (position_of (codes "ab\ncd") 0 ≡ at 0 0)
    × (position_of (codes "ab\ncd") 2 ≡ at 0 2)
    × (position_of (codes "ab\ncd") 3 ≡ at 1 0)
    × (position_of (codes "ab\ncd") 5 ≡ at 1 2)
    × (position_of (codes "ab\n") 3 ≡ at 1 0)
    × (position_of (codes "a\r\nb\r\n") 3 ≡ at 1 0)
    × (position_of (codes "a\r\nb\r\n") 4 ≡ at 1 1)
    × (position_of (codes "a\r\nb\r\n") 5 ≡ at 1 2)
    × (position_of (codes "a\r\nb\r\n") 6 ≡ at 2 0)
    × (position_of (codes "\n\n\n") 2 ≡ at 2 0)
    × (position_of (a_umlaut ++ codes "=x") 2 ≡ at 0 1)
    × (position_of (a_umlaut ++ codes "=x") 4 ≡ at 0 3)
    × (position_of (euro ++ codes "=x") 3 ≡ at 0 1)
    × (position_of (euro ++ codes "=x") 5 ≡ at 0 3)
    × (position_of (smile ++ codes "=x") 4 ≡ at 0 2)
    × (position_of (smile ++ codes "=x") 6 ≡ at 0 4)
    × (position_of (smile ++ (codes "\n" ++ (a_umlaut ++ (euro ++ smile)))) 14 ≡ at 1 4)
