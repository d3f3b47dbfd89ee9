-- Tests of single bytes, and of what a text begins with. A text is a list of bytes.
use Rattle.std.specs.Prelude.{ℕ, suc, ◌==◌, nat_le, Bool, false, not, ◌&&◌, ◌||◌, List, [], ◌∷◌, if◌then◌else◌, Option, Some, None, option_map}

-- ---- one byte

-- a space or a TAB
abbrev pub is_blank : ℕ → Bool
is_blank b = b == 32 || b == 9

-- LF or CR
abbrev pub is_line_byte : ℕ → Bool
is_line_byte b = b == 10 || b == 13

abbrev pub is_line_feed : ℕ → Bool
is_line_feed b = b == 10

abbrev pub is_quote : ℕ → Bool
is_quote b = b == 39

abbrev pub is_equals : ℕ → Bool
is_equals b = b == 61

-- a letter or `_`
abbrev pub is_word_start : ℕ → Bool
is_word_start b = nat_le 97 b && nat_le b 122 || nat_le 65 b && nat_le b 90 || b == 95

abbrev pub is_digit : ℕ → Bool
is_digit b = nat_le 48 b && nat_le b 57

-- a letter, `_` or a digit
abbrev pub is_word_byte : ℕ → Bool
is_word_byte b = is_word_start b || is_digit b

-- the digits of base 16, of base 8 and of base 2
abbrev pub is_hexadecimal : ℕ → Bool
is_hexadecimal b = is_digit b || nat_le 97 b && nat_le b 102 || nat_le 65 b && nat_le b 70

abbrev pub is_octal : ℕ → Bool
is_octal b = nat_le 48 b && nat_le b 55

abbrev pub is_binary : ℕ → Bool
is_binary b = nat_le 48 b && nat_le b 49

-- ---- what is at the front

-- the text has a first byte, and it passes
abbrev pub begins : (ℕ → Bool) → List ℕ → Bool
begins test [] = false
begins test (b ∷ bs) = test b

-- the first two bytes pass
abbrev pub begins_two : (ℕ → Bool) → List ℕ → Bool
begins_two test [] = false
begins_two test (b ∷ bs) = test b && begins test bs

-- three quotes
abbrev pub begins_three_quotes : List ℕ → Bool
begins_three_quotes [] = false
begins_three_quotes (b ∷ bs) = is_quote b && begins_two is_quote bs

-- a CR that no LF follows
abbrev pub begins_bare_return : List ℕ → Bool
begins_bare_return [] = false
begins_bare_return (b ∷ bs) = b == 13 && not (begins is_line_feed bs)

-- the place of the first CR that no LF follows
abbrev pub first_bare_return : List ℕ → Option ℕ
first_bare_return [] = None
first_bare_return (b ∷ bs) = if begins_bare_return (b ∷ bs) then Some 0 else option_map suc (first_bare_return bs)
