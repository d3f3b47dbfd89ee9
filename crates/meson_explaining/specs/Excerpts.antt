-- Why a file does not parse: its line, with a mark below the place.
use Rattle.std.specs.Prelude.{ℕ, ◌==◌, not, ◌&&◌, if◌then◌else◌, List, [], ◌∷◌, ◌++◌, map, reverse, take, drop, take_while, chars, codes}
use Rattle.std.specs.Prelude.{encode_utf8_all, option_to_list, Option, Some, None}
use Rattle.std.specs.Char.{is_control}
use Rattle.std.specs.Str.Lossy.{utf8_lossy}
use Rattle.meson_lex.specs.declared.fault.LexFault.TheVariants as lex
use Rattle.meson_syntax.specs.declared.fault.ParseFault.{ParseFault}
use Rattle.meson_syntax.specs.declared.fault.ParseFault.TheVariants as parse
use Rattle.meson_inventory.specs.Inventory.{line_number}
use Rattle.meson_explaining.specs.Lines.{column, help_line, place_words, printable}
use Rattle.meson_explaining.specs.declared.explanation.Explanation.{Explanation}
use Rattle.meson_explaining.specs.declared.explanation.Note.{Note}

-- ---- the line of an offset, cut

-- a control character, as a tab, is shown as a blank (32), so that the mark is below its place
abbrev pub plain_char : ℕ → ℕ
plain_char c = if is_control c then 32 else c

-- the last 60 characters before the offset, up to a line feed (10), the last one first
abbrev pub chars_before : List ℕ → ℕ → List ℕ
chars_before bytes at_ = take 60 (take_while (λ c. not (c == 10)) (reverse (chars (utf8_lossy (take at_ bytes)))))

abbrev pub last_before : List ℕ → ℕ → List ℕ
last_before bytes at_ = map plain_char (chars_before bytes at_)

abbrev pub shown_before : List ℕ → ℕ → List ℕ
shown_before bytes at_ = reverse (last_before bytes at_)

-- the first 40 from it on, up to a line feed or a carriage return (13)
abbrev pub chars_after : List ℕ → ℕ → List ℕ
chars_after bytes at_ = take 40 (take_while (λ c. not (c == 10) && not (c == 13)) (chars (utf8_lossy (drop at_ bytes))))

abbrev pub shown_after : List ℕ → ℕ → List ℕ
shown_after bytes at_ = map plain_char (chars_after bytes at_)

-- the line, and below it a mark
abbrev pub excerpt : List ℕ → ℕ → List ℕ
excerpt bytes at_ =
    codes "    " ++ (encode_utf8_all (shown_before bytes at_) ++ (encode_utf8_all (shown_after bytes at_)
    ++ (codes "\n    " ++ (encode_utf8_all (map (λ c. 32) (shown_before bytes at_)) ++ codes "^\n"))))

-- ---- faults

-- where the file does not parse, and what is there; the others are of the file as a whole
abbrev pub fault_note : ParseFault → Option (ℕ × List ℕ)
fault_note (parse.Lex (lex.StrayByte at_)) = Some (at_, codes "no word of the language begins with this character")
fault_note (parse.Lex (lex.OpenString at_)) = Some (at_, codes "this string has no end")
fault_note (parse.Lex (lex.BadNumber at_)) = Some (at_, codes "this is no number")
fault_note (parse.Lex (lex.BareCarriageReturn at_)) = Some (at_, codes "here is a carriage return without a line feed")
fault_note (parse.Unexpected at_) = Some (at_, codes "this is not allowed here")
fault_note (parse.TooDeep at_) = Some (at_, codes "at most 64 constructs may be inside one another")
fault_note _ = None

abbrev pub fault_help : ParseFault → Option (List ℕ)
fault_help parse.TooLarge = Some (codes "a build file has at most 1048576 bytes: split it by subdir")
fault_help parse.NotUtf8 = Some (codes "save the file as UTF-8")
fault_help parse.ByteOrderMark = Some (codes "save the file without a byte order mark")
fault_help (parse.Lex (lex.StrayByte at_)) = Some (codes "strings are in single quotes, and comments begin with #")
fault_help (parse.Lex (lex.OpenString at_)) = Some (codes "close it by ' on its line, or write ''' around a text of several lines")
fault_help (parse.Lex (lex.BadNumber at_)) = Some (codes "digits follow one another, after 0x, 0o or 0b those of that base")
fault_help (parse.Lex (lex.BareCarriageReturn at_)) = Some (codes "save the file with LF or CR LF as line ends")
fault_help (parse.Unexpected at_) = Some (codes "a statement ends with its line, unless a bracket is open or the line ends in a backslash")
fault_help (parse.TooDeep at_) = Some (codes "use a variable for what is inside")
fault_help parse.OutOfMemory = None

-- ---- as lines

abbrev pub place_lines : List ℕ → List ℕ → ℕ × List ℕ → List ℕ
place_lines name bytes note =
    (printable (codes "note: " ++ (place_words name (line_number bytes note.0) (column bytes note.0) ++ note.1)) ++ codes "\n") ++ excerpt bytes note.0

abbrev pub noted_lines : List ℕ → List ℕ → Option (ℕ × List ℕ) → List ℕ
noted_lines name bytes None = []
noted_lines name bytes (Some note) = place_lines name bytes note

abbrev pub helped_lines : Option (List ℕ) → List ℕ
helped_lines None = []
helped_lines (Some text) = help_line text

-- of the file of that name with these bytes
abbrev pub fault_lines : List ℕ → List ℕ → ParseFault → List ℕ
fault_lines name bytes fault = noted_lines name bytes (fault_note fault) ++ helped_lines (fault_help fault)

-- ---- as an explanation, of a set that has this file alone; the place has no bytes

abbrev pub fault_notes : Option (ℕ × List ℕ) → List Note
fault_notes None = []
fault_notes (Some note) = record { spot = Some (record { file = 0; at = note.0; end = note.0 }); text = note.1 } ∷ []

abbrev pub fault_explanation : ParseFault → Explanation
fault_explanation fault = record { notes = fault_notes (fault_note fault); help = option_to_list (fault_help fault) }
