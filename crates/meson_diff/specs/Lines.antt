-- The lines of a text.
use Rattle.std.specs.Prelude.{ℕ, ◌+◌, Bool, List, [], ◌∷◌, length, min, nat_eq, ◌==◌, if◌then◌else◌}
use Rattle.std.specs.List.{ends_with, onto_first, position_or_len}

-- the lines, each with its line end, a line feed; the last one may have none
abbrev pub lines : List ℕ → List (List ℕ)
lines [] = []
lines (b ∷ text) = if b == 10 then (b ∷ []) ∷ lines text else onto_first b (lines text)

-- the number of bytes of the first line
abbrev pub line_len : List ℕ → ℕ
line_len text = min (position_or_len (λ b. b == 10) text + 1) (length text)

-- whether a line has its line end
abbrev pub is_ended : List ℕ → Bool
is_ended line = ends_with nat_eq line (10 ∷ [])
