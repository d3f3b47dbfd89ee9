-- How many blank lines go with code, as words and scripts give it.
use Rattle.std.specs.Prelude.{ℕ, nat_le, nat_lt, Bool, ◌&&◌, List, length, if◌then◌else◌, Option, Some, None}
use Rattle.std.specs.Str.{all_ascii_digits}
use Rattle.std.specs.Str.Parse.{digits_value}

-- the largest number of blank lines
abbrev pub max_blank_lines : ℕ
max_blank_lines = 100

-- the same number, if it is not larger
abbrev pub blank_within : ℕ → Option ℕ
blank_within n = if nat_le n max_blank_lines then Some n else None

-- decimal digits and nothing else, of such a number
abbrev pub is_blank_count : List ℕ → Bool
is_blank_count word = all_ascii_digits word && (nat_lt 0 (length word) && nat_le (digits_value 10 word) max_blank_lines)

unfoldable pub blank_of : List ℕ → Option ℕ
blank_of word = if is_blank_count word then Some (digits_value 10 word) else None
