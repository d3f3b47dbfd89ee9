-- An explanation as lines.
use Rattle.std.specs.Prelude.{ℕ, ◌+◌, ◌==◌, nat_lt, nat_le, Bool, not, ◌||◌, if◌then◌else◌, List, [], ◌++◌, filter, flat_map, length, reverse, take}
use Rattle.std.specs.Prelude.{take_while, codes, decimal, encode_utf8, encode_utf8_all, Option, Some, None}
use Rattle.std.specs.Char.{is_control}
use Rattle.std.specs.Char.Escape.{escape_unicode}
use Rattle.std.specs.Str.{chars}
use Rattle.meson_splice.specs.declared.file_set.File.{File}
use Rattle.meson_splice.specs.Files.{bytes_at}
use Rattle.meson_calls.specs.Loading.{name_of_file}
use Rattle.meson_inventory.specs.Inventory.{line_number}
use Rattle.meson_explaining.specs.declared.explanation.Explanation.{Explanation}
use Rattle.meson_explaining.specs.declared.explanation.Note.{Note}
use Rattle.meson_explaining.specs.declared.explanation.Spot.{Spot}

-- ---- text for a terminal: control characters are escaped, as `\u{1b}`

abbrev pub shown_char : ℕ → List ℕ
shown_char c = if is_control c then encode_utf8_all (escape_unicode c) else encode_utf8 c

abbrev pub printable : List ℕ → List ℕ
printable text = flat_map shown_char (chars text)

-- ---- places

-- a byte that is the first of a character in UTF-8
abbrev pub begins_character : ℕ → Bool
begins_character b = nat_lt b 128 || nat_le 192 b

-- the bytes after the last line feed (10), the last one first
abbrev pub last_line : List ℕ → List ℕ
last_line bytes = take_while (λ b. not (b == 10)) (reverse bytes)

-- the number of the column of the byte at an offset, counted from 1 in characters
abbrev pub column : List ℕ → ℕ → ℕ
column bytes at_ = length (filter begins_character (last_line (take at_ bytes))) + 1

-- `FILE:LINE:COLUMN: `
abbrev pub place_words : List ℕ → ℕ → ℕ → List ℕ
place_words file line_ column_ = file ++ (codes ":" ++ (decimal line_ ++ (codes ":" ++ (decimal column_ ++ codes ": "))))

abbrev pub spot_part : List File → Spot → List ℕ
spot_part files s =
    place_words (name_of_file s.file files) (line_number (bytes_at s.file files) s.at) (column (bytes_at s.file files) s.at)

abbrev pub place_part : List File → Option Spot → List ℕ
place_part files None = []
place_part files (Some s) = spot_part files s

-- ---- lines

-- the word that it begins with, its place and its text
abbrev pub marked_line : List ℕ → List File → Note → List ℕ
marked_line word files n = printable (word ++ (place_part files n.spot ++ n.text)) ++ codes "\n"

abbrev pub note_line : List File → Note → List ℕ
note_line files n = marked_line (codes "note: ") files n

abbrev pub help_line : List ℕ → List ℕ
help_line text = printable (codes "help: " ++ text) ++ codes "\n"

abbrev pub explanation_lines : List File → Explanation → List ℕ
explanation_lines files e = flat_map (note_line files) e.notes ++ flat_map help_line e.help

-- warnings of what a command does
abbrev pub warning_lines : List File → List Note → List ℕ
warning_lines files notes = flat_map (marked_line (codes "warning: ") files) notes
