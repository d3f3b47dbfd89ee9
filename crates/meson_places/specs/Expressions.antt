-- An expression at a place of a project's trees, and another one there.
use Rattle.std.specs.Prelude.{◌≡◌, ℕ, List, [], ◌∷◌, Option, Some, None, option_map, option_and_then}
use Rattle.meson_lex.specs.declared.kinds.Span.{Span}
use Rattle.meson_syntax.specs.Paths.{Sort, of_expression, of_statement, of_block, Node, reach, block_of, with_block}
use Rattle.meson_syntax.specs.Tree.{Block, Expression, Nowhere, Plain}
use Rattle.meson_calls.specs.declared.call.CallRef.{CallRef}
use Rattle.meson_calls.specs.Project.{Project, expression_at}
use Rattle.meson_steps.specs.Steps.{changed_at}

-- what is around an expression with another one there; there is nothing around a statement or a block that is an expression's
abbrev pub put_back : (sort : Sort) → (Node sort Nowhere → Block Nowhere) → Expression Nowhere → Option (Block Nowhere)
put_back of_expression back e = Some (back e)
put_back of_statement back e = None
put_back of_block back e = None

-- the file with this expression in the place of the one that a path names
abbrev pub with_expression : List ℕ → Expression Nowhere → Plain → Option Plain
with_expression path e f = option_map (with_block f) (option_and_then (λ h. put_back h.sort h.back e) (reach Nowhere of_block (block_of f) path))

-- The expression at the place is this one now, and all else in the trees is as it was.
abbrev pub ExpressionIs : CallRef → Expression Nowhere → (before after : List Plain) → Type 0
ExpressionIs c now before after = changed_at c.file (with_expression c.path.steps now) before ≡ Some after

-- At each of some places is an expression, and it is now what is made of it, one after another; all else in the trees is as it was.
abbrev pub EachIs : Project Span → (CallRef → Expression Span → Expression Nowhere) → List CallRef → (before after : List Plain) → Type 0
EachIs p make [] before after = after ≡ before
EachIs p make (c ∷ cs) before after =
    (e : Expression Span) × (expression_at p c ≡ Some e)
    × ((between : List Plain) × ExpressionIs c (make c e) before between × EachIs p make cs between after)
