-- The block or the statement that a path names, as the code reaches it: from blocks to statements and back, past expressions.
use Rattle.std.specs.Prelude.{ℕ, List, Option, Some, None, option_map, option_and_then}
use Rattle.meson_lex.specs.declared.kinds.Span.{Span}
use Rattle.meson_edit.specs.Assigned.{assigned_in}
use Rattle.meson_edit.specs.Blocks.{statement_in}
use Rattle.meson_syntax.specs.Children.{Any, an_expression, a_statement, a_block}
use Rattle.meson_syntax.specs.inside.Children.{statement_parts}
use Rattle.meson_syntax.specs.Paths.{nth}
use Rattle.meson_syntax.specs.Tree.{Block, Expression}
use Rattle.meson_syntax.specs.View.{block_view, stmt_view}
use Rattle.meson_steps.specs.declared.statements.Layer.{Layer}
use Rattle.meson_steps.specs.declared.statements.Layer.TheVariants as layer

abbrev pub block_any : {S : Type 0} → Any S → Option (Block S)
block_any (an_expression e) = None
block_any (a_statement s) = None
block_any (a_block b) = Some b

-- a node that is no expression
abbrev pub layer_any : {S : Type 0} → Any S → Option (Any S)
layer_any (an_expression e) = None
layer_any (a_statement s) = Some (a_statement s)
layer_any (a_block b) = Some (a_block b)

-- the value that a node assigns
abbrev pub assigned_any : {S : Type 0} → Any S → Option (Expression S)
assigned_any (an_expression e) = None
assigned_any (a_statement s) = option_map (λ a. a.value) (assigned_in s)
assigned_any (a_block b) = None

abbrev pub layer_view : List ℕ → Layer → Any Span
layer_view source (layer.Block b) = a_block (block_view source b.now)
layer_view source (layer.Stmt s) = a_statement (stmt_view source s.now)

-- The next step on the way: from a block to a statement, from a statement to a block. No block is in an expression.
abbrev pub next_layer : {S : Type 0} → Any S → ℕ → Option (Any S)
next_layer (an_expression e) n = None
next_layer (a_statement s) n = option_map a_block (option_and_then block_any (nth (statement_parts s) n))
next_layer (a_block b) n = option_map a_statement (statement_in b n)
