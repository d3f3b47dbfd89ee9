-- Texts that are one expression of the grammar.
use Rattle.std.specs.Prelude.{◌≡◌, ℕ, ◌+◌, ◌≤◌, Bool, true, false, ◌&&◌, List, [], ◌∷◌, ◌++◌, length, map, if◌then◌else◌, slice_range, Option, Some, None, Result, Ok, Err}
use Rattle.std.specs.Str.{is_utf8}
use Rattle.meson_lex.specs.declared.fault.LexFault.{LexFault}
use Rattle.meson_lex.specs.declared.kinds.Item.{Item}
use Rattle.meson_lex.specs.declared.kinds.Kind.TheVariants as kind
use Rattle.meson_lex.specs.declared.kinds.Span.{Span}
use Rattle.meson_lex.specs.Items.{Lexeme}
use Rattle.meson_lex.specs.Located.{located}
use Rattle.meson_lex.specs.Scan.{scan}
use Rattle.meson_syntax.specs.declared.operator.Bracket.TheVariants as bracket
use Rattle.meson_syntax.specs.Grammar.{LevelExpression, expression_depth, expression_words}
use Rattle.meson_syntax.specs.inside.ReadingLists.{whole_list}
use Rattle.meson_syntax.specs.Reads.{max_depth}
use Rattle.meson_syntax.specs.Tree.{Expression, Listing, Nowhere}
use Rattle.meson_edit.specs.Places.{IsWritten}
use Rattle.meson_steps.specs.inside.Bare.{is_bare, is_lone}

-- The text is an expression from its first token to its last, without a comment or a continuation in it. Its constructs nest no deeper than those of a file
-- may.
pub record IsExpression (text : List ℕ) : Type 0 where
  pub node : Expression Nowhere
  pub writes : IsWritten text (expression_words node)
  pub level : LevelExpression node
  pub shallow : expression_depth node ≤ max_depth

-- The same for a text that is written for a value. As an array of expressions it may be one deeper.
pub record IsValue (text : List ℕ) : Type 0 where
  pub node : Expression Nowhere
  pub writes : IsWritten text (expression_words node)
  pub level : LevelExpression node
  pub shallow : expression_depth node ≤ max_depth + 1

-- ---- as a function

-- whether no item has a fault
abbrev pub all_fine : List (Result Item LexFault) → Bool
all_fine [] = true
all_fine (Ok x ∷ more) = all_fine more
all_fine (Err fault ∷ more) = false

-- the items of a text
abbrev pub given_items : List ℕ → List (Result Item LexFault) → List Lexeme
given_items text [] = []
given_items text (Ok x ∷ more) = record { kind = x.kind; text = slice_range text x.span.from x.span.to } ∷ given_items text more
given_items text (Err fault ∷ more) = given_items text more

-- items in square brackets
abbrev pub in_brackets : List Lexeme → List Lexeme
in_brackets xs = record { kind = kind.OpenSquare; text = 91 ∷ [] } ∷ (xs ++ record { kind = kind.CloseSquare; text = 93 ∷ [] } ∷ [])

abbrev pub is_lone_list : Option (Listing Span) → Bool
is_lone_list None = false
is_lone_list (Some l) = is_lone l

-- whether items that begin and end with a token, in brackets, are a list of one expression
abbrev pub is_one : ℕ → List Lexeme → Bool
is_one len xs = is_bare (map (λ x. x.kind) xs) && is_lone_list (whole_list (max_depth + 1) bracket.Square (len + 2) (located (in_brackets xs)))

-- whether a text is an expression: the law `CodeIsExpression` says that it is so exactly where `IsExpression` holds
unfoldable pub is_code : List ℕ → Bool
is_code text = is_utf8 text && (all_fine (scan 0 text) && is_one (length text) (given_items text (scan 0 text)))

-- the code of a text is that text, if it is an expression
abbrev pub code_of : List ℕ → Option (List ℕ)
code_of text = if is_code text then Some text else None

-- the law: the function says of each text whether it is an expression
abbrev pub CodeIsExpression : Type 0
CodeIsExpression = (text : List ℕ) → (is_code text ≡ true → IsExpression text) × (IsExpression text → is_code text ≡ true)
