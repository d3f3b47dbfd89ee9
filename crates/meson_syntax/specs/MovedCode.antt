-- The code's trees with each border mapped by one function, the borders of names too.
use Rattle.std.specs.Prelude.{ℕ, map}
use Rattle.meson_syntax.specs.declared.tree.Arg.{Arg, fold-Arg}
use Rattle.meson_syntax.specs.declared.tree.Arg.TheOpen.{Arg-F, Expr-F, Tail-F, List-F, Operand-F}
use Rattle.meson_syntax.specs.declared.tree.Arg.TheVariants as arg
use Rattle.meson_syntax.specs.declared.tree.Expr.{Expr, fold-Expr}
use Rattle.meson_syntax.specs.declared.tree.Expr.TheVariants as expr
use Rattle.meson_syntax.specs.declared.tree.Tail.{fold-Tail}
use Rattle.meson_syntax.specs.declared.tree.Tail as rust_tail
use Rattle.meson_syntax.specs.declared.tree.Tail.TheVariants as tail
use Rattle.meson_syntax.specs.declared.tree.List.{fold-List}
use Rattle.meson_syntax.specs.declared.tree.List as rust
use Rattle.meson_syntax.specs.declared.tree.Operand.{Operand, fold-Operand}
use Rattle.meson_syntax.specs.declared.tree.Stmt.{Stmt, fold-Stmt}
use Rattle.meson_syntax.specs.declared.tree.Stmt.TheOpen.{Stmt-F, Block-F, Branch-F}
use Rattle.meson_syntax.specs.declared.tree.Stmt.TheVariants as stmt
use Rattle.meson_syntax.specs.declared.tree.Branch.{Branch, fold-Branch}
use Rattle.meson_syntax.specs.declared.tree.Block.{Block, fold-Block}
use Rattle.meson_syntax.specs.declared.tree.Parsed.{Parsed}
use Rattle.meson_syntax.specs.Moving.{span_by}

-- ---- trees with their borders mapped

module _ (g : ℕ → ℕ) where
  abbrev arg_step : Arg-F Arg Expr rust_tail.Tail rust.List Operand → Arg
  arg_step (Arg-F.Plain value) = arg.Plain value
  arg_step (Arg-F.Named span name value) = arg.Named (span_by g span) (span_by g name) value
  arg_step (Arg-F.Pair span key value) = arg.Pair (span_by g span) key value

  abbrev expr_step : Expr-F Arg Expr rust_tail.Tail rust.List Operand → Expr
  expr_step (Expr-F.Identifier span) = expr.Identifier (span_by g span)
  expr_step (Expr-F.Boolean span value) = expr.Boolean (span_by g span) value
  expr_step (Expr-F.Integer span) = expr.Integer (span_by g span)
  expr_step (Expr-F.String span kind) = expr.String (span_by g span) kind
  expr_step (Expr-F.Paren span inside) = expr.Paren (span_by g span) inside
  expr_step (Expr-F.Array list) = expr.Array list
  expr_step (Expr-F.Dictionary list) = expr.Dictionary list
  expr_step (Expr-F.Call span name arguments) = expr.Call (span_by g span) (span_by g name) arguments
  expr_step (Expr-F.Unary span operator operand) = expr.Unary (span_by g span) operator operand
  expr_step (Expr-F.Row span first rest) = expr.Row (span_by g span) first rest
  expr_step (Expr-F.Postfix span base tails) = expr.Postfix (span_by g span) base tails
  expr_step (Expr-F.Conditional span condition so else_so) = expr.Conditional (span_by g span) condition so else_so

  abbrev tail_step : Tail-F Arg Expr rust_tail.Tail rust.List Operand → rust_tail.Tail
  tail_step (Tail-F.Method span name arguments) = tail.Method (span_by g span) (span_by g name) arguments
  tail_step (Tail-F.Index span index) = tail.Index (span_by g span) index

  abbrev list_step : List-F Arg Expr rust_tail.Tail rust.List Operand → rust.List
  list_step l = record { items = l.items; trailing = l.trailing; span = span_by g l.span }

  abbrev operand_step : Operand-F Arg Expr rust_tail.Tail rust.List Operand → Operand
  operand_step o = record { operator = o.operator; value = o.value }

  abbrev pub moved_expr : Expr → Expr
  moved_expr = fold-Expr Arg Expr rust_tail.Tail rust.List Operand arg_step expr_step tail_step list_step operand_step

  abbrev pub moved_arg : Arg → Arg
  moved_arg = fold-Arg Arg Expr rust_tail.Tail rust.List Operand arg_step expr_step tail_step list_step operand_step

  abbrev pub moved_tail : rust_tail.Tail → rust_tail.Tail
  moved_tail = fold-Tail Arg Expr rust_tail.Tail rust.List Operand arg_step expr_step tail_step list_step operand_step

  abbrev pub moved_list : rust.List → rust.List
  moved_list = fold-List Arg Expr rust_tail.Tail rust.List Operand arg_step expr_step tail_step list_step operand_step

  abbrev pub moved_operand : Operand → Operand
  moved_operand = fold-Operand Arg Expr rust_tail.Tail rust.List Operand arg_step expr_step tail_step list_step operand_step

  abbrev stmt_step : Stmt-F Stmt Block Branch → Stmt
  stmt_step (Stmt-F.Expr value) = stmt.Expr (moved_expr value)
  stmt_step (Stmt-F.Assign span name assignment value) = stmt.Assign (span_by g span) (span_by g name) assignment (moved_expr value)
  stmt_step (Stmt-F.If span branches last) = stmt.If (span_by g span) branches last
  stmt_step (Stmt-F.Foreach span names items body) = stmt.Foreach (span_by g span) (map (span_by g) names) (moved_expr items) body
  stmt_step (Stmt-F.Break span) = stmt.Break (span_by g span)
  stmt_step (Stmt-F.Continue span) = stmt.Continue (span_by g span)

  abbrev block_step : Block-F Stmt Block Branch → Block
  block_step b = record { statements = b.statements; span = span_by g b.span }

  abbrev branch_step : Branch-F Stmt Block Branch → Branch
  branch_step b = record { condition = moved_expr b.condition; block = b.block }

  abbrev pub moved_stmt : Stmt → Stmt
  moved_stmt = fold-Stmt Stmt Block Branch stmt_step block_step branch_step

  abbrev pub moved_block : Block → Block
  moved_block = fold-Block Stmt Block Branch stmt_step block_step branch_step

  abbrev pub moved_branch : Branch → Branch
  moved_branch = fold-Branch Stmt Block Branch stmt_step block_step branch_step

  abbrev pub moved_parsed : Parsed → Parsed
  moved_parsed p = record { block = moved_block p.block; span = span_by g p.span }
