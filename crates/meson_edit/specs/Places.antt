-- The place of an edit of a tree in its file, and what is written there.
use Rattle.std.specs.Str.{IsUtf8}
use Rattle.std.specs.Prelude.{◌≡◌, ℕ, List, Option, Some, option_map, option_and_then}
use Rattle.meson_lex.specs.declared.kinds.Span.{Span}
use Rattle.meson_lex.specs.Items.{Lexeme}
use Rattle.meson_lex.specs.Significant.{Word}
use Rattle.meson_lex.specs.Words.{spoken}
use Rattle.meson_layout.specs.declared.primitive.Primitive.{Primitive}
use Rattle.meson_layout.specs.declared.primitive.Primitive.TheVariants as layout
use Rattle.meson_layout.specs.declared.primitive.LineSpot.{LineSpot}
use Rattle.meson_layout.specs.declared.primitive.LineSpot.TheVariants as spot
use Rattle.meson_layout.specs.Edited.{IsNew}
use Rattle.meson_syntax.specs.Tree.{Nowhere, Argument, Statement, File}
use Rattle.meson_syntax.specs.Grammar.{expression_words, argument_words, statement_words}
use Rattle.meson_syntax.specs.Paths.{ListAt, list_at, list_span, nth, value_of}
use Rattle.meson_edit.specs.Standing.{expression_span, argument_span, statement_span}
use Rattle.meson_edit.specs.Assigned.{assigned_at}
use Rattle.meson_edit.specs.Blocks.{block_at, statement_in, IsStatementText}
use Rattle.meson_edit.specs.Edits.{LinePlace, above, below, at_end, Edit, First, After, Remove, Replace, Wrap, RemoveStatement, Append, Assign, Lines, elements}
use Rattle.meson_edit.specs.ExchangedLines.{IsLinesText}

-- ---- places

-- the n-th element of a list
abbrev pub element_there : ℕ → ListAt Span → Option (Argument Span)
element_there n p = nth (elements p.list) n

abbrev pub element_span : File Span → List ℕ → ℕ → Option Span
element_span f path n = option_map argument_span (option_and_then (element_there n) (list_at f path))

abbrev pub value_span : File Span → List ℕ → ℕ → Option Span
value_span f path n = option_map expression_span (option_and_then value_of (option_and_then (element_there n) (list_at f path)))

abbrev pub bracket_offset : File Span → List ℕ → Option ℕ
bracket_offset f path = option_map (λ (p : ListAt Span). (list_span {S = Span} p.list).from) (list_at f path)

abbrev pub span_of_statement : File Span → List ℕ → ℕ → Option Span
span_of_statement f path n = option_map statement_span (option_and_then (λ b. statement_in b.inside n) (block_at f path))

abbrev pub assigned_span : File Span → List ℕ → Option Span
assigned_span f path = option_map (λ p. expression_span p.value) (assigned_at f path)

abbrev pub line_spot : File Span → LinePlace → Option LineSpot
line_spot f (above path n) = option_map spot.Above (span_of_statement f path n)
line_spot f (below path n) = option_map spot.Below (span_of_statement f path n)
line_spot f at_end = Some spot.End

-- The edit as it is laid out: by the spans of what it names.
abbrev pub primitive_of : File Span → Edit → Option Primitive
primitive_of f (First path new) = option_map (λ at. layout.First at new.bytes) (bracket_offset f path)
primitive_of f (After path n new) = option_map (λ s. layout.After s new.bytes) (element_span f path n)
primitive_of f (Remove path n) = option_map layout.Remove (element_span f path n)
primitive_of f (Replace path n new) = option_map (λ s. layout.Replace s new.bytes) (value_span f path n)
primitive_of f (Wrap path n) = option_map layout.Wrap (value_span f path n)
primitive_of f (RemoveStatement blank path n) = option_map (λ s. layout.RemoveStatement s blank) (span_of_statement f path n)
primitive_of f (Append new) = Some (layout.Append new.bytes)
primitive_of f (Assign path new) = option_map (λ s. layout.Replace s new.bytes) (assigned_span f path)
primitive_of f (Lines place new) = option_map (λ s. layout.Lines s new.bytes) (line_spot f place)

-- ---- what is written

-- The bytes are an element or a value of these words, from its first token to its last, without a comment or a continuation.
pub record IsWritten (bytes : List ℕ) (words : List Word) : Type 0 where
  pub items : List Lexeme
  pub is_new : IsNew bytes items
  pub is_words : spoken items ≡ words
  pub utf8 : IsUtf8 bytes

-- The bytes are a statement of these words, from its first token to its last. (An expression is one; each line end in it is inside brackets.)
pub record IsWrittenStatement (bytes : List ℕ) (words : List Word) : Type 0 where
  pub text : IsStatementText bytes words
  pub utf8 : IsUtf8 bytes

-- The bytes are whole lines of these statements. Comments and empty lines may be among them.
pub record IsWrittenLines (bytes : List ℕ) (new : List (Statement Nowhere)) : Type 0 where
  pub text : IsLinesText bytes new
  pub utf8 : IsUtf8 bytes

-- the bytes that an edit writes are those of the tree that it puts there
abbrev pub Writes : Edit → Type 0
Writes (First path new) = IsWritten new.bytes (argument_words new.node)
Writes (After path n new) = IsWritten new.bytes (argument_words new.node)
Writes (Remove path n) = Unit {0}
Writes (Replace path n new) = IsWritten new.bytes (expression_words new.node)
Writes (Wrap path n) = Unit {0}
Writes (RemoveStatement blank path n) = Unit {0}
Writes (Append new) = IsWrittenStatement new.bytes (statement_words new.node)
Writes (Assign path new) = IsWrittenStatement new.bytes (expression_words new.node)
Writes (Lines place new) = IsWrittenLines new.bytes new.node
