-- The indent of code beside a statement, and the blank lines between them.
use Rattle.std.specs.Prelude.{◌≡◌, ℕ, ◌+◌, ◌-◌, nat_eq, Bool, false, ◌||◌, ◌⊎◌, List, [], ◌∷◌, ◌++◌, Option, Some, None, length}
use Rattle.std.specs.Prelude.{drop, reverse, take, if◌then◌else◌}
use Rattle.std.specs.List.{AllByRecursion, list_any, prefix_len, repeat}
use Rattle.meson_lex.specs.declared.kinds.Kind.{Kind}
use Rattle.meson_lex.specs.declared.kinds.Kind.TheVariants.{Blank, LineEnd}
use Rattle.meson_lex.specs.Bytes.{is_blank}
use Rattle.meson_lex.specs.Items.{Lexeme}
use Rattle.meson_layout.specs.Looks.{is_white}
use Rattle.meson_statements.specs.declared.endings.Ending.{Ending}
use Rattle.meson_statements.specs.declared.endings.Ending.TheVariants as ending

-- ---- the indent

-- the spaces and TABs that end a text
abbrev pub last_blanks : List ℕ → List ℕ
last_blanks text = drop (length text - prefix_len is_blank (reverse text)) text

-- the spaces and TABs directly before an offset
abbrev pub indent_at : (source : List ℕ) (from : ℕ) → List ℕ
indent_at source from = last_blanks (take from source)

-- ---- blank lines

-- whether a text has more than one line
abbrev pub has_several_lines : List ℕ → Bool
has_several_lines text = list_any (λ b. nat_eq b 10) text

-- The number of blank lines between a statement and the code beside it: the number requested. Without a request it is one if either has more than one line,
-- else none.
abbrev pub gap_between : (blank : Option ℕ) (statement code : List ℕ) → ℕ
gap_between (Some n) statement code = n
gap_between None statement code = if has_several_lines statement || has_several_lines code then 1 else 0

-- the number requested, else none
abbrev pub requested : Option ℕ → ℕ
requested (Some n) = n
requested None = 0

-- this number of line ends
abbrev pub line_ends : ℕ → List ℕ → List ℕ
line_ends n end = repeat n end

-- ---- the end of a file

-- how a file ends after an item, by how it ended before it
abbrev pub ending_by : Kind → Ending → Ending
ending_by LineEnd ending.Text = ending.Lines 0
ending_by LineEnd (ending.Lines n) = ending.Lines (n + 1)
ending_by LineEnd (ending.Blanks n) = ending.Lines n
ending_by Blank ending.Text = ending.Text
ending_by Blank (ending.Lines n) = ending.Blanks (n + 1)
ending_by Blank (ending.Blanks n) = ending.Blanks n
ending_by _ e = ending.Text

abbrev pub ending_after : Ending → List Lexeme → Ending
ending_after e [] = e
ending_after e (x ∷ xs) = ending_after (ending_by x.kind e) xs

-- the number of blank lines
abbrev pub blank_lines : Ending → ℕ
blank_lines ending.Text = 0
blank_lines (ending.Lines n) = n
blank_lines (ending.Blanks n) = n

-- The number of blank lines that end a file: those after its last line with text. A last line that is blanks without a line end is one too.
abbrev pub blank_lines_at_end : List Lexeme → ℕ
blank_lines_at_end xs = blank_lines (ending_after (ending.Lines 0) xs)

-- ---- laws

-- a line end, perhaps after a blank
abbrev pub IsBlankLine : List Lexeme → Type 0
IsBlankLine [] = ⊥
IsBlankLine (x ∷ []) = x.kind ≡ LineEnd
IsBlankLine (x ∷ y ∷ []) = (x.kind ≡ Blank) × (y.kind ≡ LineEnd)
IsBlankLine (x ∷ y ∷ z ∷ xs) = ⊥

abbrev pub all_of : List (List Lexeme) → List Lexeme
all_of [] = []
all_of (row ∷ rows) = row ++ all_of rows

-- The items end with a line that has text, or there are none.
abbrev pub EndsWithText : List Lexeme → Type 0
EndsWithText xs = (xs ≡ [])
    ⊎ ((front : List Lexeme) × (x : Lexeme) × (rest : List Lexeme) × (xs ≡ front ++ x ∷ rest) × (is_white x.kind ≡ false) × IsBlankLine rest)

-- The blank lines that end a file are those after its last line with text.
abbrev pub BlankLinesCounted : Type 0
BlankLinesCounted = (xs : List Lexeme) → EndsWithText xs → (rows : List (List Lexeme)) → AllByRecursion IsBlankLine rows
    → blank_lines_at_end (xs ++ all_of rows) ≡ length rows
