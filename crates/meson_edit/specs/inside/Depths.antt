-- The depth of a condition and the block after it.
use Rattle.std.specs.Prelude.{ℕ, max}
use Rattle.meson_syntax.specs.Tree.{Expression, Block}
use Rattle.meson_syntax.specs.Grammar.{expression_depth, block_depth}

abbrev pub branch_depth : {S : Type 0} → Expression S × Block S → ℕ
branch_depth b = max (expression_depth b.0) (block_depth b.1)
