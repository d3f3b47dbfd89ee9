-- Rows, read from the operand that they begin with. No public contract names this.
use Rattle.std.specs.Prelude.{ℕ, zero, suc, ◌-◌, Bool, List, [], Some}
use Rattle.meson_lex.specs.declared.kinds.Span.{Span}
use Rattle.meson_syntax.specs.declared.operator.Operator.{Operator}
use Rattle.meson_syntax.specs.inside.Input.{Parser, ◌>>=◌, and_then, pure, since, span_from, left}
use Rattle.meson_syntax.specs.inside.Reading.{operands_from, row_at, with_operands}
use Rattle.meson_syntax.specs.Tree.{Expression}

module _ (room : Bool) (inner : Parser (Expression Span)) where
  -- the operands of a row of this level after its first
  unfoldable pub operands : ℕ → Parser (List (Operator × Expression Span))
  operands level = λ i. operands_from room inner level (row_at room inner (level - 1)) (left i) [] i

  -- this operand, which is read and began at start, with the operands of a row of this level after it
  abbrev pub longer : ℕ → ℕ → Expression Span → Parser (Expression Span)
  longer level start first = λ i. and_then (operands level i) (λ os j. Some (with_operands (span_from start j) first os, j))

  -- the row of this level, or the tighter expression, that begins with this operand, which is read and began at start
  unfoldable pub row_with : ℕ → ℕ → Expression Span → Parser (Expression Span)
  row_with zero start e = pure e
  row_with (suc n) start e = do
    first ← row_with n start e
    rest ← operands (suc n)
    at ← since start
    pure (with_operands at first rest)
