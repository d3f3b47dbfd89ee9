-- The tree of a value of the code over its source. Texts are the source's slices at the spans.
use Rattle.std.specs.Prelude.{ℕ, List, Option, Some, None, map, slice_range}
use Rattle.meson_lex.specs.declared.kinds.Span.{Span}
use Rattle.meson_syntax.specs.declared.operator.Operator.{Operator}
use Rattle.meson_syntax.specs.declared.tree.Arg.{Arg, fold-Arg}
use Rattle.meson_syntax.specs.declared.tree.Arg.TheOpen.{Arg-F, Expr-F, Tail-F, List-F, Operand-F}
use Rattle.meson_syntax.specs.declared.tree.Expr.{Expr, fold-Expr}
use Rattle.meson_syntax.specs.declared.tree.Tail.{fold-Tail}
use Rattle.meson_syntax.specs.declared.tree.Tail as rust_tail
use Rattle.meson_syntax.specs.declared.tree.List.{fold-List}
use Rattle.meson_syntax.specs.declared.tree.List as rust
use Rattle.meson_syntax.specs.declared.tree.Operand.{Operand, fold-Operand}
use Rattle.meson_syntax.specs.declared.tree.Stmt.{Stmt, fold-Stmt}
use Rattle.meson_syntax.specs.declared.tree.Stmt.TheOpen.{Stmt-F, Block-F, Branch-F}
use Rattle.meson_syntax.specs.declared.tree.Branch.{Branch, fold-Branch}
use Rattle.meson_syntax.specs.declared.tree.Block.{fold-Block}
use Rattle.meson_syntax.specs.declared.tree.Block as rust_block
use Rattle.meson_syntax.specs.declared.tree.Parsed.{Parsed}
use Rattle.meson_syntax.specs.Tree.{Name, Expression, identifier, boolean, integer, string, paren, array, dictionary, call, unary, row, postfix, conditional, operands_of, Tail, method, index, tails_of, Listing, listing, Argument, plain, named, pair, arguments_of, Statement, evaluate, assign, selection, iteration, breaks, continues, branches_of, Otherwise, nothing_else, otherwise, Block, block, statements_of, File, file}

-- the bytes of a span
abbrev pub text_at : List ℕ → Span → List ℕ
text_at source span = slice_range source span.from span.to

-- the name at a span
abbrev pub name_at : List ℕ → Span → Name Span
name_at source span = record { place = span; text = text_at source span }

abbrev pub names_at : List ℕ → List Span → List (Name Span)
names_at source = map (name_at source)

abbrev A : Type 0
A = Argument Span

abbrev E : Type 0
E = Expression Span

abbrev T : Type 0
T = Tail Span

abbrev L : Type 0
L = Listing Span

abbrev O : Type 0
O = Operator × Expression Span

abbrev S : Type 0
S = Statement Span

abbrev B : Type 0
B = Block Span

abbrev C : Type 0
C = Expression Span × Block Span

abbrev otherwise_of : Option (Block Span) → Otherwise Span
otherwise_of None = nothing_else
otherwise_of (Some b) = otherwise b

module _ (source : List ℕ) where
  -- ---- expressions

  abbrev arg_step : Arg-F A E T L O → A
  arg_step (Arg-F.Plain e) = plain e
  arg_step (Arg-F.Named span name value) = named span (name_at source name) value
  arg_step (Arg-F.Pair span key value) = pair span key value

  abbrev expr_step : Expr-F A E T L O → E
  expr_step (Expr-F.Identifier span) = identifier span (text_at source span)
  expr_step (Expr-F.Boolean span value) = boolean span value
  expr_step (Expr-F.Integer span) = integer span (text_at source span)
  expr_step (Expr-F.String span kind) = string span kind (text_at source span)
  expr_step (Expr-F.Paren span inside) = paren span inside
  expr_step (Expr-F.Array list) = array list
  expr_step (Expr-F.Dictionary list) = dictionary list
  expr_step (Expr-F.Call span name arguments) = call span (name_at source name) arguments
  expr_step (Expr-F.Unary span operator operand) = unary span operator operand
  expr_step (Expr-F.Row span first rest) = row span first (operands_of rest)
  expr_step (Expr-F.Postfix span base tails) = postfix span base (tails_of tails)
  expr_step (Expr-F.Conditional span condition so else_so) = conditional span condition so else_so

  abbrev tail_step : Tail-F A E T L O → T
  tail_step (Tail-F.Method span name arguments) = method span (name_at source name) arguments
  tail_step (Tail-F.Index span e) = index span e

  abbrev list_step : List-F A E T L O → L
  list_step l = listing l.span l.trailing (arguments_of l.items)

  abbrev operand_step : Operand-F A E T L O → O
  operand_step o = (o.operator, o.value)

  abbrev pub expr_view : Expr → Expression Span
  expr_view = fold-Expr A E T L O arg_step expr_step tail_step list_step operand_step

  abbrev pub arg_view : Arg → Argument Span
  arg_view = fold-Arg A E T L O arg_step expr_step tail_step list_step operand_step

  abbrev pub tail_view : rust_tail.Tail → Tail Span
  tail_view = fold-Tail A E T L O arg_step expr_step tail_step list_step operand_step

  abbrev pub list_view : rust.List → Listing Span
  list_view = fold-List A E T L O arg_step expr_step tail_step list_step operand_step

  abbrev pub operand_view : Operand → Operator × Expression Span
  operand_view = fold-Operand A E T L O arg_step expr_step tail_step list_step operand_step

  abbrev pub args_view : List Arg → List (Argument Span)
  args_view = map arg_view

  abbrev pub tails_view : List rust_tail.Tail → List (Tail Span)
  tails_view = map tail_view

  abbrev pub operands_view : List Operand → List (Operator × Expression Span)
  operands_view = map operand_view

  -- ---- statements

  abbrev stmt_step : Stmt-F S B C → S
  stmt_step (Stmt-F.Expr e) = evaluate (expr_view e)
  stmt_step (Stmt-F.Assign span name assignment value) = assign span (name_at source name) assignment (expr_view value)
  stmt_step (Stmt-F.If span branches last) = selection span (branches_of branches) (otherwise_of last)
  stmt_step (Stmt-F.Foreach span names items body) = iteration span (names_at source names) (expr_view items) body
  stmt_step (Stmt-F.Break span) = breaks span
  stmt_step (Stmt-F.Continue span) = continues span

  abbrev block_step : Block-F S B C → B
  block_step b = block b.span (statements_of b.statements)

  abbrev branch_step : Branch-F S B C → C
  branch_step b = (expr_view b.condition, b.block)

  abbrev pub stmt_view : Stmt → Statement Span
  stmt_view = fold-Stmt S B C stmt_step block_step branch_step

  abbrev pub block_view : rust_block.Block → Block Span
  block_view = fold-Block S B C stmt_step block_step branch_step

  abbrev pub branch_view : Branch → Expression Span × Block Span
  branch_view = fold-Branch S B C stmt_step block_step branch_step

  abbrev pub stmts_view : List Stmt → List (Statement Span)
  stmts_view = map stmt_view

  abbrev pub branches_view : List Branch → List (Expression Span × Block Span)
  branches_view = map branch_view

  abbrev pub otherwise_view : Option rust_block.Block → Otherwise Span
  otherwise_view None = nothing_else
  otherwise_view (Some b) = otherwise (block_view b)

  -- ---- files

  abbrev pub view : Parsed → File Span
  view p = file p.span (block_view p.block)

abbrev pub Bytes : Type 0
Bytes = List ℕ
