-- Code as it is written at its place in a file.
use Rattle.std.specs.Prelude.{◌≤◌, ℕ, ◌-◌, true, List, [], ◌++◌, Option, Some, None, slice_range}
use Rattle.std.specs.Str.{IsUtf8}
use Rattle.meson_lex.specs.declared.kinds.Span.{Span}
use Rattle.meson_lex.specs.Items.{Lexeme, joined, IsItemList}
use Rattle.meson_layout.specs.Statements.{line_end_of}
use Rattle.meson_syntax.specs.Reads.{Spells}
use Rattle.meson_syntax.specs.Tree.{Plain}
use Rattle.meson_edit.specs.ExchangedLines.{IsLinesText, file_statements}
use Rattle.meson_statements.specs.declared.places.Side.{Side}
use Rattle.meson_statements.specs.declared.places.Side.TheVariants as side
use Rattle.meson_statements.specs.Gaps.{blank_lines_at_end, gap_between, indent_at, line_ends, requested}
use Rattle.meson_statements.specs.Indented.{indented}

-- a range of a text
abbrev pub IsWithin : Span → ℕ → Type 0
IsWithin s len = (s.from ≤ s.to) × (s.to ≤ len)

-- the statement beside it is a range of the text
abbrev pub IsBeside : Side → ℕ → Type 0
IsBeside (side.Above s) len = IsWithin s len
IsBeside (side.Below s) len = IsWithin s len
IsBeside (side.End (Some s)) len = IsWithin s len
IsBeside (side.End None) len = Unit {0}

-- the number of blank lines between the code and a statement
abbrev pub gap_beside : (source : List ℕ) (blank : Option ℕ) (code : List ℕ) → Span → ℕ
gap_beside source blank code s = gap_between blank (slice_range source s.from s.to) code

-- The number of blank lines that are wanted between the end of a file and the code: in a file without statements those requested, and else none.
abbrev pub wanted_at_end : (source : List ℕ) (blank : Option ℕ) (code : List ℕ) → Option Span → ℕ
wanted_at_end source blank code (Some last) = gap_beside source blank code last
wanted_at_end source blank code None = requested blank

-- The number of blank lines that are written with the code. At the end of a file, which has the items xs, those that end it are there.
abbrev pub gap_at : (source : List ℕ) (xs : List Lexeme) (blank : Option ℕ) (code : List ℕ) → Side → ℕ
gap_at source xs blank code (side.Above s) = gap_beside source blank code s
gap_at source xs blank code (side.Below s) = gap_beside source blank code s
gap_at source xs blank code (side.End last) = wanted_at_end source blank code last - blank_lines_at_end xs

-- the indent of the statement beside it, and none at the end of a file
abbrev pub side_indent : (source : List ℕ) → Side → List ℕ
side_indent source (side.Above s) = indent_at source s.from
side_indent source (side.Below s) = indent_at source s.from
side_indent source (side.End last) = []

-- the line end of the file that has these items
abbrev pub end_of : List Lexeme → List ℕ
end_of xs = (line_end_of xs).text

-- lines and blank lines, in their order
abbrev pub parted : Side → (blank lines : List ℕ) → List ℕ
parted (side.Above s) blank lines = lines ++ blank
parted (side.Below s) blank lines = blank ++ lines
parted (side.End last) blank lines = blank ++ lines

-- What is inserted: the lines of the code, each with the indent of the place and with the line end of the file, and the blank lines that part them from what is
-- there. The source has the items xs, and the code has the items ys.
abbrev pub text_at : (source : List ℕ) (xs : List Lexeme) (blank : Option ℕ) (code : List ℕ) (ys : List Lexeme) → Side → List ℕ
text_at source xs blank code ys at_ =
    parted at_ (line_ends (gap_at source xs blank code at_) (end_of xs)) (joined (indented (side_indent source at_) (end_of xs) true ys))

-- ---- laws

-- What is inserted is whole lines of the code's statements.
abbrev pub PlacedAreLines : Type 0
PlacedAreLines = (source : List ℕ) (xs : List Lexeme) → IsItemList source xs → (code : List ℕ) (t : Plain) → Spells code t → (ys : List Lexeme)
    → IsItemList code ys → (blank : Option ℕ) (at_ : Side) → IsLinesText (text_at source xs blank code ys at_) (file_statements t)

-- It is UTF-8 if the code is.
abbrev pub PlacedAreUtf8 : Type 0
PlacedAreUtf8 = (source : List ℕ) (xs : List Lexeme) → IsItemList source xs → (code : List ℕ) → IsUtf8 code → (ys : List Lexeme)
    → IsItemList code ys → (blank : Option ℕ) (at_ : Side) → IsUtf8 (text_at source xs blank code ys at_)
