-- A number of runs, as a word gives it.
use Rattle.std.specs.Prelude.{ℕ, ◌^◌, nat_lt, Bool, ◌&&◌, List, if◌then◌else◌, Option, Some, None}
use Rattle.std.specs.Str.{all_ascii_digits}
use Rattle.std.specs.Str.Parse.{digits_value}

-- decimal digits and nothing else, of a number from 1 to usize::MAX
abbrev pub is_count : List ℕ → Bool
is_count word = all_ascii_digits word && (nat_lt 0 (digits_value 10 word) && nat_lt (digits_value 10 word) (2 ^ 64))

unfoldable pub count_of : List ℕ → Option ℕ
count_of word = if is_count word then Some (digits_value 10 word) else None
