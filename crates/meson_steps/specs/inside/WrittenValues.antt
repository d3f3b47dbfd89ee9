-- What is written for a value of an argument.
use Rattle.std.specs.Prelude.{◌≡◌, ◌≤◌, ℕ, List, Result, Ok}
use Rattle.meson_syntax.specs.Grammar.{expression_words, LevelExpression, expression_depth}
use Rattle.meson_syntax.specs.Tree.{Nowhere, Expression}
use Rattle.meson_edit.specs.Edits.{Written}
use Rattle.meson_edit.specs.Places.{IsWritten}
use Rattle.meson_calls.specs.declared.refusal.Refusal.{Refusal}

-- The bytes are written for an expression in which no construct is in another, and which may be the value of an argument.
pub record WrittenFor (bytes : List ℕ) : Type 0 where
  pub node : Expression Nowhere
  pub writes : IsWritten bytes (expression_words node)
  pub level : LevelExpression node
  pub shallow : expression_depth node ≤ 1

abbrev pub value_written : (bytes : List ℕ) → WrittenFor bytes → Written (Expression Nowhere)
value_written bytes w = record { bytes = bytes; node = w.node }

-- these bytes are set
pub record IsSet (set : Result (Written (Expression Nowhere)) Refusal) (bytes : List ℕ) : Type 0 where
  pub new : WrittenFor bytes
  pub is : set ≡ Ok (value_written bytes new)
