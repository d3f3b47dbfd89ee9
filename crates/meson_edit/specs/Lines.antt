-- What an edit on items has to know of statements: where lines begin and end, and which words remain.
use Rattle.std.specs.Str.{IsUtf8}
use Rattle.std.specs.Prelude.{◌≡◌, ◌≤◌, ℕ, false, List, [], ◌∷◌, ◌++◌, length, Some, ⊤}
use Rattle.meson_lex.specs.declared.kinds.Kind.TheVariants as k
use Rattle.meson_lex.specs.declared.kinds.Span.{Span}
use Rattle.meson_lex.specs.Items.{Lexeme, joined, IsItemList}
use Rattle.meson_lex.specs.Significant.{Word, State, start, after, emitted, closing, new_line}
use Rattle.meson_syntax.specs.declared.source.Limits.{Limits}
use Rattle.meson_syntax.specs.Tree.{Nowhere, Plain, Statement, File}
use Rattle.meson_syntax.specs.Grammar.{statement_words, file_words, file_depth}
use Rattle.meson_syntax.specs.Reads.{Fits, Spells, ReadsWithin, IsSpannedWithin}
use Rattle.meson_lex.specs.Words.{spoken, IsTight}
use Rattle.meson_edit.specs.Standing.{statement_span}
use Rattle.meson_edit.specs.Blocks.{BlockAt, block_at, statement_in, block_without, file_and_last, IsStatementText}

-- after a token, outside brackets
abbrev pub in_line : State
in_line = record { depth = 0; fresh = false }

-- A statement among the items of its text: a line begins before it and ends after it. `rest` are the words of the text without that line.
pub record LineStands (items : List Lexeme) (s : Span) (words rest : List Word) : Type 0 where
  pub left : List Lexeme
  pub own : List Lexeme
  pub right : List Lexeme
  pub parts : items ≡ left ++ (own ++ right)
  pub from : s.from ≡ length (joined left)
  pub to : s.to ≡ length (joined (left ++ own))
  pub tight : IsTight own
  pub begins : after start left ≡ start
  pub is_own : emitted start own ≡ words
  pub ends : after start (left ++ own) ≡ in_line
  pub more : List Word
  pub is_right : emitted (after start (left ++ own)) right ++ closing (after start items).fresh ≡ new_line ∷ more
  pub is_rest : emitted start left ++ more ≡ rest

-- Each statement of a block that a path names is so.
abbrev pub StatementsStand : Type 0
StatementsStand = (limits : Limits) (bytes : List ℕ) (f : File Span) (s : IsSpannedWithin limits bytes f) (path : List ℕ) (b : BlockAt Span)
    → block_at f path ≡ Some b
    → (n : ℕ) (x : Statement Span) → statement_in b.inside n ≡ Some x
    → LineStands s.reads.spells.items (statement_span x) (statement_words x) (file_words (b.back (block_without b.inside n)))

-- Its own items are a statement's text.
abbrev pub StatementsAreTexts : Type 0
StatementsAreTexts = (limits : Limits) (bytes : List ℕ) (f : File Span) (s : IsSpannedWithin limits bytes f) (path : List ℕ) (b : BlockAt Span)
    → block_at f path ≡ Some b
    → (n : ℕ) (x : Statement Span) → statement_in b.inside n ≡ Some x
    → (left own right : List Lexeme) → IsItemList bytes (left ++ (own ++ right)) → length (joined left) ≡ (statement_span x).from
    → length (joined (left ++ own)) ≡ (statement_span x).to
    → IsStatementText (joined own) (statement_words x)

-- no item is a line end
abbrev pub HasNoLineEnd : List Lexeme → Type 0
HasNoLineEnd [] = ⊤
HasNoLineEnd (x ∷ xs) = (x.kind ≡ k.LineEnd → ⊥) × HasNoLineEnd xs

-- A text in one line has the words of its items.
abbrev pub LinesAreTexts : Type 0
LinesAreTexts = (text : List ℕ) (items : List Lexeme) → IsItemList text items → HasNoLineEnd items → IsTight items → (words : List Word)
    → spoken items ≡ words → IsStatementText text words

-- At the end of a file no bracket is open.
abbrev pub FilesEnd : Type 0
FilesEnd = (bytes : List ℕ) (t : Plain) → Spells bytes t → (items : List Lexeme) → IsItemList bytes items → (after start items).depth ≡ 0

-- After a statement neither, and its line has not ended.
abbrev pub StatementsEnd : Type 0
StatementsEnd = (x : Statement Nowhere) (text : List ℕ) (s : IsStatementText text (statement_words x)) → after start s.items ≡ in_line

-- The words of a file with one more statement.
abbrev pub AppendedWords : Type 0
AppendedWords = (t : Plain) (x : Statement Nowhere) → file_words (file_and_last t x) ≡ file_words t ++ (statement_words x ++ new_line ∷ [])

-- A text cut between items is UTF-8 on both sides.
abbrev pub CutsAreUtf8 : Type 0
CutsAreUtf8 = (bytes : List ℕ) (front back : List Lexeme) → IsItemList bytes (front ++ back) → IsUtf8 bytes → IsUtf8 (joined front) × IsUtf8 (joined back)

-- A text that spells a tree parses as it, if its coding, its length and its depth allow it.
abbrev pub SpelledReads : Type 0
SpelledReads = (limits : Limits) (bytes : List ℕ) (t : Plain) → Spells bytes t → IsUtf8 bytes → Fits limits.len (length bytes) → file_depth t ≤ limits.depth
    → ReadsWithin limits bytes t
