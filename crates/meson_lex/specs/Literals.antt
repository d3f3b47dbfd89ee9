-- Literals: the text that a string of a build file means, and the string that is written for a text.
-- A literal's characters are numbers, as a text's bytes are. The literal of a text differs from the text in ASCII alone. So `literal` is right for a list of
-- characters and for their UTF-8 bytes.
use Rattle.std.specs.Prelude.{ℕ, zero, suc, ◌+◌, ◌-◌, ◌*◌, ◌/◌, ◌%◌, ◌==◌, nat_lt, nat_le, Bool, ◌&&◌, ◌||◌, List, [], ◌∷◌, ◌++◌, length, take, drop, if◌then◌else◌, Option, Some, None, option_map, flat_map}
use Rattle.std.specs.Char.{digit_char}
use Rattle.std.specs.List.{take_while}
use Rattle.std.specs.Str.{is_utf8, chars, encode_utf8_all}
use Rattle.std.specs.Str.Parse.{digits_value}
use Rattle.meson_lex.specs.declared.kinds.Kind.{Kind}
use Rattle.meson_lex.specs.declared.kinds.Kind.TheVariants.{PlainString, MultilineString}
use Rattle.meson_lex.specs.declared.escapes.Escaped.{Escaped}
use Rattle.meson_lex.specs.Bytes.{is_octal, is_hexadecimal, begins}

-- ---- written literals

-- How a character is written between single quotes. A quote and a backslash are written after a backslash, and LF, CR and TAB as \n, \r and \t. Other control
-- characters are written as \x and two digits, all else as it is.
abbrev pub written_byte : ℕ → List ℕ
written_byte c =
    if c == 39 then 92 ∷ 39 ∷ []
    else (if c == 92 then 92 ∷ 92 ∷ []
    else (if c == 10 then 92 ∷ 110 ∷ []
    else (if c == 13 then 92 ∷ 114 ∷ []
    else (if c == 9 then 92 ∷ 116 ∷ []
    else (if nat_lt c 32 || c == 127 then 92 ∷ 120 ∷ digit_char (c / 16) ∷ digit_char (c % 16) ∷ []
    else c ∷ [])))))

-- the plain string that is written for a text
abbrev pub literal : List ℕ → List ℕ
literal text = 39 ∷ (flat_map written_byte text ++ 39 ∷ [])

-- ---- escapes

-- the backslash means itself, and what follows it is read as it is
abbrev pub kept_backslash : Escaped
kept_backslash = record { character = 92; taken = 0 }

-- the character that a backslash and this one mean, by Syntax's table of escapes: \\ \' \a \b \f \n \r \t \v; any other backslash stays
abbrev pub letter_escape : ℕ → Escaped
letter_escape c =
    if c == 92 then record { character = 92; taken = 1 }
    else (if c == 39 then record { character = 39; taken = 1 }
    else (if c == 97 then record { character = 7; taken = 1 }
    else (if c == 98 then record { character = 8; taken = 1 }
    else (if c == 102 then record { character = 12; taken = 1 }
    else (if c == 110 then record { character = 10; taken = 1 }
    else (if c == 114 then record { character = 13; taken = 1 }
    else (if c == 116 then record { character = 9; taken = 1 }
    else (if c == 118 then record { character = 11; taken = 1 }
    else kept_backslash))))))))

-- a Unicode scalar value
abbrev pub is_scalar : ℕ → Bool
is_scalar n = nat_lt n 55296 || nat_le 57344 n && nat_lt n 1114112

-- the character of a number that a number of characters named; a number that is not a character's makes the literal opaque
abbrev pub character_of : ℕ → ℕ → Option Escaped
character_of n taken = if is_scalar n then Some (record { character = n; taken = taken }) else None

-- one to three octal digits, as many as are there (a number above 255 is a character too: decided here)
abbrev pub octal_escape : List ℕ → Option Escaped
octal_escape digits = character_of (digits_value 8 digits) (length digits)

-- a letter and exactly that number of hexadecimal digits: \x and two, \u and four, \U and eight (with fewer the backslash stays: decided here)
abbrev pub hexadecimal_escape : ℕ → List ℕ → Option Escaped
hexadecimal_escape wanted digits = if length digits == wanted then character_of (digits_value 16 digits) (wanted + 1) else Some kept_backslash

-- the character that a backslash and what follows it mean, and how many of the characters after it that takes; none if it makes the literal opaque
abbrev pub escape : List ℕ → Option Escaped
escape [] = Some kept_backslash
escape (c ∷ cs) =
    if is_octal c then octal_escape (take_while is_octal (take 3 (c ∷ cs)))
    else (if c == 120 then hexadecimal_escape 2 (take_while is_hexadecimal (take 2 cs))
    else (if c == 117 then hexadecimal_escape 4 (take_while is_hexadecimal (take 4 cs))
    else (if c == 85 then hexadecimal_escape 8 (take_while is_hexadecimal (take 8 cs))
    else (if c == 78 && begins (λ d. d == 123) cs then None
    else Some (letter_escape c)))))

-- ---- values

abbrev pub escape_taken : Option Escaped → ℕ
escape_taken None = 0
escape_taken (Some e) = e.taken

-- an escape's character before the characters that follow it
abbrev pub before : Option Escaped → Option (List ℕ) → Option (List ℕ)
before None rest = None
before (Some e) rest = option_map (λ l. e.character ∷ l) rest

-- what means itself before the escapes that are left; the first `skip` characters belong to an escape before them
abbrev pub unescaped_after : ℕ → List ℕ → Option (List ℕ)
unescaped_after skip [] = Some []
unescaped_after (suc skip) (c ∷ cs) = unescaped_after skip cs
unescaped_after zero (c ∷ cs) = if c == 92 then before (escape cs) (unescaped_after (escape_taken (escape cs)) cs)
    else option_map (λ l. c ∷ l) (unescaped_after 0 cs)

-- the characters that those between single quotes mean
abbrev pub unescaped : List ℕ → Option (List ℕ)
unescaped cs = unescaped_after 0 cs

-- what is between this number of quotes on either side
abbrev pub between : ℕ → List ℕ → List ℕ
between quotes token = take (length token - 2 * quotes) (drop quotes token)

-- the characters that a string means; a format string is opaque
abbrev pub value_of_characters : Kind → List ℕ → Option (List ℕ)
value_of_characters PlainString cs = unescaped (between 1 cs)
value_of_characters MultilineString cs = Some (between 3 cs)
value_of_characters _ cs = None

-- the text, in UTF-8, that the bytes of a string mean; bytes that are not UTF-8 are opaque
abbrev pub value : Kind → List ℕ → Option (List ℕ)
value kind token = if is_utf8 token then option_map encode_utf8_all (value_of_characters kind (chars token)) else None
