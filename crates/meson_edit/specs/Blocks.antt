-- Statements removed from a block and appended to a file. The laws say that the text then parses as the tree with that change.
use Rattle.std.specs.Str.{IsUtf8}
use Rattle.std.specs.Prelude.{◌≡◌, ◌≤◌, ℕ, zero, suc, List, [], ◌∷◌, ◌++◌, length, Option, Some, None, option_and_then, ◌⊎◌, ⊤}
use Rattle.meson_lex.specs.declared.kinds.Span.{Span}
use Rattle.meson_lex.specs.declared.kinds.Kind.TheVariants as k
use Rattle.meson_lex.specs.Kinds.{IsLineEnd}
use Rattle.meson_lex.specs.Items.{Lexeme, joined, IsItemList}
use Rattle.meson_lex.specs.Significant.{Word, start, emitted}
use Rattle.meson_syntax.specs.declared.source.Limits.{Limits}
use Rattle.meson_syntax.specs.Tree.{Nowhere, Plain, Statement, Statements, no_statements, statement, statement_list, Block, block, File, file, erase}
use Rattle.meson_syntax.specs.Grammar.{statement_words, LevelStatement, LevelFile, file_depth}
use Rattle.meson_syntax.specs.Reads.{Fits, Spells, ReadsWithin, IsSpannedWithin}
use Rattle.meson_syntax.specs.Paths.{Sort, of_expression, of_statement, of_block, Node, nth, reach, block_of, with_block}
use Rattle.meson_lex.specs.Words.{IsTight}
use Rattle.meson_edit.specs.Standing.{statement_span}

-- ---- trees

-- the block that a path names, and its file with another block there
pub record BlockAt (S : Type 0) : Type 0 where
  pub inside : Block S
  pub back : Block S → File S

abbrev pub block_of_node : (S : Type 0) (sort : Sort) → Node sort S → File S → (Node sort S → Block S) → Option (BlockAt S)
block_of_node S of_expression e f back = None
block_of_node S of_statement s f back = None
block_of_node S of_block b f back = Some (record { inside = b; back = λ other. with_block f (back other) })

abbrev pub block_at : {S : Type 0} → File S → List ℕ → Option (BlockAt S)
block_at {S} f path = option_and_then (λ h. block_of_node S h.sort h.inside f h.back) (reach S of_block (block_of f) path)

-- the n-th statement of a block
abbrev pub statement_in : {S : Type 0} → Block S → ℕ → Option (Statement S)
statement_in (block s list) n = nth (statement_list list) n

abbrev pub all_but : {S : Type 0} → Statements S → ℕ → Statements S
all_but no_statements n = no_statements
all_but (statement s more) zero = more
all_but (statement s more) (suc n) = statement s (all_but more n)

-- the block without its n-th statement
abbrev pub block_without : {S : Type 0} → Block S → ℕ → Block S
block_without (block s list) n = block s (all_but list n)

abbrev pub and_last : {S : Type 0} → Statements S → Statement S → Statements S
and_last no_statements x = statement x no_statements
and_last (statement s more) x = statement s (and_last more x)

-- the file with one more statement at its end
abbrev pub file_and_last : {S : Type 0} → File S → Statement S → File S
file_and_last (file s (block b list)) x = file s (block b (and_last list x))

-- ---- items that are removed, and items that are added

abbrev pub EndsInNoBlank : List Lexeme → Type 0
EndsInNoBlank xs = (front : List Lexeme) (x : Lexeme) → xs ≡ front ++ x ∷ [] → x.kind ≡ k.Blank → ⊥

abbrev pub BeginsInNoBlank : List Lexeme → Type 0
BeginsInNoBlank xs = (x : Lexeme) (back : List Lexeme) → xs ≡ x ∷ back → x.kind ≡ k.Blank → ⊥

-- What stays of the items left of a statement, before those that stay after it. It is all but the blank directly before it; or all, if no blank is then
-- directly before another blank.
abbrev pub IsTrimmed : (left front back : List Lexeme) → Type 0
IsTrimmed left front back = ((blank : Lexeme) × (blank.kind ≡ k.Blank) × (left ≡ front ++ blank ∷ []))
    ⊎ ((left ≡ front) × (EndsInNoBlank left ⊎ BeginsInNoBlank back))

-- what is removed after a statement: nothing, a blank, a line end, or both
abbrev pub IsLineRest : List Lexeme → Type 0
IsLineRest [] = ⊤
IsLineRest (x ∷ []) = (x.kind ≡ k.Blank) ⊎ (x.kind ≡ k.LineEnd)
IsLineRest (x ∷ y ∷ []) = (x.kind ≡ k.Blank) × (y.kind ≡ k.LineEnd)
IsLineRest (x ∷ y ∷ z ∷ zs) = ⊥

-- The text is a statement of these words, from its first token to its last.
pub record IsStatementText (text : List ℕ) (words : List Word) : Type 0 where
  pub items : List Lexeme
  pub are_items : IsItemList text items
  pub is_words : emitted start items ≡ words
  pub tight : IsTight items

-- no line is begun at the end: there are no items, or a line end is the last
abbrev pub EndsItsLine : List Lexeme → Type 0
EndsItsLine xs = (xs ≡ []) ⊎ ((front : List Lexeme) × (x : Lexeme) × (x.kind ≡ k.LineEnd) × (xs ≡ front ++ x ∷ []))

-- what separates a statement from the items before it: a line end, or nothing if these end their line
abbrev pub IsBreak : List Lexeme → List ℕ → Type 0
IsBreak xs break = IsLineEnd break ⊎ ((break ≡ []) × EndsItsLine xs)

-- ---- laws

-- The tree without a statement has its levels, and so has the one with a statement more that has them.
abbrev pub RemovalsLevel : Type 0
RemovalsLevel = (f : File Span) (path : List ℕ) (b : BlockAt Span) → block_at f path ≡ Some b → LevelFile f → (n : ℕ)
    → LevelFile (b.back (block_without b.inside n))

abbrev pub AppendingLevels : Type 0
AppendingLevels = (t : Plain) → LevelFile t → (x : Statement Nowhere) → LevelStatement x → LevelFile (file_and_last t x)

-- A statement's own items are removed, with the blank before it or without, and with what ends its line or a part of that. Then the new text spells the tree
-- without the statement.
abbrev pub StatementsGo : Type 0
StatementsGo = (limits : Limits) (bytes : List ℕ) (f : File Span) (s : IsSpannedWithin limits bytes f) (path : List ℕ) (b : BlockAt Span)
    → block_at f path ≡ Some b
    → (n : ℕ) (x : Statement Span) → statement_in b.inside n ≡ Some x
    → (left own right : List Lexeme) → IsItemList bytes (left ++ (own ++ right)) → length (joined left) ≡ (statement_span x).from
    → length (joined (left ++ own)) ≡ (statement_span x).to
    → (front gone back : List Lexeme) → IsTrimmed left front back → right ≡ gone ++ back → IsLineRest gone
    → Spells (joined (front ++ back)) (erase (b.back (block_without b.inside n)))

-- And it parses as that tree, if its length and its depth allow it.
abbrev pub RemovalsReadAgain : Type 0
RemovalsReadAgain = (limits : Limits) (bytes : List ℕ) (f : File Span) (s : IsSpannedWithin limits bytes f) (path : List ℕ) (b : BlockAt Span)
    → block_at f path ≡ Some b
    → (n : ℕ) (x : Statement Span) → statement_in b.inside n ≡ Some x
    → (left own right : List Lexeme) → IsItemList bytes (left ++ (own ++ right)) → length (joined left) ≡ (statement_span x).from
    → length (joined (left ++ own)) ≡ (statement_span x).to
    → (front gone back : List Lexeme) → IsTrimmed left front back → right ≡ gone ++ back → IsLineRest gone
    → Fits limits.len (length (joined (front ++ back))) → file_depth (b.back (block_without b.inside n)) ≤ limits.depth
    → ReadsWithin limits (joined (front ++ back)) (erase (b.back (block_without b.inside n)))

-- A statement's text after a file's, each on lines of its own, spells the file with that statement at its end.
abbrev pub StatementsCome : Type 0
StatementsCome = (bytes : List ℕ) (t : Plain) → Spells bytes t → (items : List Lexeme) → IsItemList bytes items
    → (x : Statement Nowhere) (text : List ℕ) → IsStatementText text (statement_words x) → LevelStatement x
    → (break end : List ℕ) → IsBreak items break → IsLineEnd end
    → Spells (bytes ++ (break ++ (text ++ end))) (file_and_last t x)

-- And it parses as that file, if its length and its depth allow it and the statement's text is UTF-8.
abbrev pub AppendedReadAgain : Type 0
AppendedReadAgain = (limits : Limits) (bytes : List ℕ) (t : Plain) → ReadsWithin limits bytes t → (items : List Lexeme) → IsItemList bytes items
    → (x : Statement Nowhere) (text : List ℕ) → IsStatementText text (statement_words x) → LevelStatement x
    → (break end : List ℕ) → IsBreak items break → IsLineEnd end
    → IsUtf8 text → Fits limits.len (length (bytes ++ (break ++ (text ++ end)))) → file_depth (file_and_last t x) ≤ limits.depth
    → ReadsWithin limits (bytes ++ (break ++ (text ++ end))) (file_and_last t x)
