-- What the functions that parse ensure, by the rules of `Reading` and `ReadingFiles`.
use Rattle.std.specs.Prelude.{ℕ, suc, ◌+◌, ◌^◌, ◌<◌, Bool, List, Result, IfErr, ⊤}
use Rattle.std.specs.declared.alloc.Global.{Global}
use denote.Ref.{Bor, MutBor}
use Rattle.meson_lex.specs.declared.kinds.Span.{Span}
use Rattle.meson_syntax.specs.declared.fault.ParseFault.{ParseFault}
use Rattle.meson_syntax.specs.declared.fault.ParseFault.TheVariants.{Unexpected, TooDeep, OutOfMemory}
use Rattle.meson_syntax.specs.declared.operator.Operator.{Operator}
use Rattle.meson_syntax.specs.declared.tree.Arg.{Arg}
use Rattle.meson_syntax.specs.declared.tree.Block as rust
use Rattle.meson_syntax.specs.declared.tree.Expr.{Expr}
use Rattle.meson_syntax.specs.View.{Bytes, args_view, block_view, expr_view}
use Rattle.meson_syntax.specs.inside.Cursor.{Cursor, input}
use Rattle.meson_syntax.specs.inside.Input.{Parser, Gives}
use Rattle.meson_syntax.specs.inside.Reading.{room, expression}
use Rattle.meson_syntax.specs.inside.ReadingFiles.{block_within}
use Rattle.meson_syntax.specs.Tree.{Argument, Block, Expression}

-- a fault by which a token is refused, or out of memory
abbrev pub IsGrammatical : ParseFault → Type 0
IsGrammatical (Unexpected at) = ⊤
IsGrammatical (TooDeep at) = ⊤
IsGrammatical OutOfMemory = ⊤
IsGrammatical _ = ⊥

-- The function answers as the rule does over this source, and leaves the tokens that it leaves.
abbrev pub AnswersAs : {X Y : Type 0} → Parser Y → (Bytes → X → Y) → Bytes → Cursor → Result X ParseFault → Cursor → Type 0
AnswersAs rule view source old result new = Gives (view source) (rule (input source old)) result (input source new) × IfErr result IsGrammatical

-- the same for a rule of expressions, if this number of constructs may still be inside one another
abbrev pub Follows : {X Y : Type 0} → (Bool → Parser (Expression Span) → Parser Y) → (Bytes → X → Y) → Bytes → ℕ → Cursor → Result X ParseFault → Cursor
    → Type 0
Follows rule view source depth old result new = AnswersAs (rule (room depth) (expression depth)) view source old result new

-- the same for a rule of statements, whose conditions and bodies are one level deeper
abbrev pub Proceeds : {X Y : Type 0} → (Bool → Parser (Expression Span) → Parser (Expression Span) → Parser (Block Span) → Parser Y) → (Bytes → X → Y)
    → Bytes → ℕ → Cursor → Result X ParseFault → Cursor → Type 0
Proceeds rule view source depth old result new = AnswersAs (rule (room depth) (expression (suc depth)) (expression depth)
    (block_within depth)) view source old result new

-- A function with this precondition and postcondition reads expressions in which fewer than this number of constructs are inside one another.
pub record Nests (depth : ℕ) (pre : Global → Bor Bytes → MutBor Cursor → ℕ → Type 0)
    (post : Global → Bor Bytes → MutBor Cursor → ℕ → Result Expr ParseFault → MutBor Cursor → Type 0) : Type 0 where
  pub callable : (alloc : Global) (source : Bor Bytes) (old : MutBor Cursor) → pre alloc source old depth
  pub reads : (alloc : Global) (source : Bor Bytes) (old new : MutBor Cursor) (r : Result Expr ParseFault) → post alloc source old depth r new
      → AnswersAs (expression depth) expr_view source.now old.now r new.now

-- A function with this precondition and postcondition reads blocks in which fewer than this number of constructs are inside one another. One more can be
-- counted.
pub record NestsBlocks (depth : ℕ) (pre : Global → Bor Bytes → MutBor Cursor → ℕ → Type 0)
    (post : Global → Bor Bytes → MutBor Cursor → ℕ → Result rust.Block ParseFault → MutBor Cursor → Type 0) : Type 0 where
  pub countable : depth + 1 < 2 ^ 64
  pub callable : (alloc : Global) (source : Bor Bytes) (old : MutBor Cursor) → pre alloc source old depth
  pub reads : (alloc : Global) (source : Bor Bytes) (old new : MutBor Cursor) (r : Result rust.Block ParseFault) → post alloc source old depth r new
      → AnswersAs (block_within depth) block_view source.now old.now r new.now

-- elements, with whether a comma is after the last
abbrev pub elements_view : Bytes → Bool × List Arg → Bool × List (Argument Span)
elements_view source p = (p.0, args_view source p.1)

-- an operator is what it is, whatever the source
abbrev pub operator_view : Bytes → Operator → Operator
operator_view source o = o
