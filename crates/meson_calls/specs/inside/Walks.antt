-- The parts within an expression or a statement, as a walk visits them.
use Rattle.std.specs.Prelude.{ℕ, ◌+◌, List, [], ◌∷◌, ◌++◌, Option, Some, None}
use Rattle.meson_lex.specs.declared.kinds.Span.{Span}
use Rattle.meson_syntax.specs.declared.tree.Block as rust_block
use Rattle.meson_syntax.specs.Tree.{Expression, Statement, Block, Otherwise, nothing_else, otherwise}
use Rattle.meson_syntax.specs.View.{block_view}
use Rattle.meson_calls.specs.declared.call.CallRef.{CallRef}
use Rattle.meson_calls.specs.Project.{Placed, child}
use Rattle.meson_calls.specs.Parts.{Part, parts_of_expression, parts_of_statement, parts_of_block}

-- the parts within an expression or a statement at a place
abbrev pub behind_first : {X : Type 0} → List X → List X
behind_first [] = []
behind_first (x ∷ xs) = xs

abbrev pub parts_within : {S : Type 0} → CallRef → Expression S → List (Placed (Part S))
parts_within p e = behind_first (parts_of_expression p e)

abbrev pub parts_inside : {S : Type 0} → CallRef → Statement S → List (Placed (Part S))
parts_inside p s = behind_first (parts_of_statement p s)

-- the block after `else`, if there is one
abbrev pub else_view : List ℕ → Option rust_block.Block → Otherwise Span
else_view source None = nothing_else
else_view source (Some b) = otherwise (block_view source b)

-- a condition and the block after it, from the n-th child on
abbrev pub parts_of_branch : {S : Type 0} → CallRef → ℕ → Expression S × Block S → List (Placed (Part S))
parts_of_branch p n b = parts_of_expression (child p n) b.0 ++ parts_of_block (child p (n + 1)) b.1
