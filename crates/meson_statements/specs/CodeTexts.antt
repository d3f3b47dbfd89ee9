-- Texts as functions: the items of a text, the tree that it parses as, and the statements that it is code for.
use Rattle.std.specs.Prelude.{◌≡◌, ℕ, ◌-◌, Bool, true, false, not, ◌&&◌, bytes_eq, List, [], ◌∷◌, drop, length, nat_le, slice_range, take, if◌then◌else◌, Option, Some, None, option_map, Result, Ok, Err}
use Rattle.std.specs.Char.{is_ascii_whitespace}
use Rattle.std.specs.List.{prefix_len, suffix_len}
use Rattle.std.specs.Str.{is_utf8}
use Rattle.meson_lex.specs.declared.fault.LexFault.{LexFault}
use Rattle.meson_lex.specs.declared.kinds.Item.{Item}
use Rattle.meson_lex.specs.Items.{Lexeme, IsItemList}
use Rattle.meson_lex.specs.Located.{located}
use Rattle.meson_lex.specs.Scan.{scan}
use Rattle.meson_syntax.specs.inside.ReadingFiles.{whole}
use Rattle.meson_syntax.specs.Reads.{Reads, mark_bytes, max_depth, max_len}
use Rattle.meson_syntax.specs.Tree.{Plain, erase}
use Rattle.meson_edit.specs.Edits.{is_empty}
use Rattle.meson_edit.specs.ExchangedLines.{file_statements}
use Rattle.meson_statements.specs.Code.{IsStatements}

-- ---- items

abbrev pub lexemes_among : List ℕ → List (Result Item LexFault) → List Lexeme
lexemes_among text [] = []
lexemes_among text (Ok x ∷ more) = record { kind = x.kind; text = slice_range text x.span.from x.span.to } ∷ lexemes_among text more
lexemes_among text (Err fault ∷ more) = lexemes_among text more

-- the items of a text, up to a fault
abbrev pub lexemes_of : List ℕ → List Lexeme
lexemes_of text = lexemes_among text (scan 0 text)

-- the law: they are its items, if it has no fault
abbrev pub LexemesAreItems : Type 0
LexemesAreItems = (text : List ℕ) (xs : List Lexeme) → IsItemList text xs → lexemes_of text ≡ xs

-- ---- trees

abbrev pub all_fine : List (Result Item LexFault) → Bool
all_fine [] = true
all_fine (Ok x ∷ more) = all_fine more
all_fine (Err fault ∷ more) = false

-- whether a text may be that of a file: it is not too long, it is UTF-8 without a byte order mark, and no item has a fault
abbrev pub is_source : List ℕ → Bool
is_source text = nat_le (length text) max_len && (is_utf8 text && (not (bytes_eq (take 3 text) mark_bytes) && all_fine (scan 0 text)))

-- the tree that a text parses as
unfoldable pub tree_of : List ℕ → Option Plain
tree_of text = if is_source text then option_map erase (whole max_depth (length text) (located (lexemes_of text))) else None

-- the law: it is the tree of the text, and each text that parses has one
abbrev pub TreesAreRead : Type 0
TreesAreRead = (text : List ℕ) (t : Plain) → (tree_of text ≡ Some t → Reads text t) × (Reads text t → tree_of text ≡ Some t)

-- ---- code

-- a text without the white space at both of its ends
abbrev pub but_last_white : List ℕ → List ℕ
but_last_white text = take (length text - suffix_len is_ascii_whitespace text) text

abbrev pub trimmed : List ℕ → List ℕ
trimmed text = but_last_white (drop (prefix_len is_ascii_whitespace text) text)

abbrev pub has_statement : Option Plain → Bool
has_statement None = false
has_statement (Some t) = not (is_empty (file_statements t))

-- the code of a text, if it is one statement or more
abbrev pub statement_code : List ℕ → Option (List ℕ)
statement_code text = if has_statement (tree_of (trimmed text)) then Some (trimmed text) else None

-- the law: a text has a statement exactly if it parses as a file with one
abbrev pub CodeIsStatements : Type 0
CodeIsStatements = (text : List ℕ) → (has_statement (tree_of text) ≡ true → IsStatements text) × (IsStatements text → has_statement (tree_of text) ≡ true)
