-- The furthest border of a tree of the code, among those of its names too.
use Rattle.std.specs.Prelude.{ℕ, List, [], ◌∷◌, Option, Some, None, map, max}
use Rattle.meson_lex.specs.declared.kinds.Span.{Span}
use Rattle.meson_syntax.specs.declared.tree.Arg.{Arg, fold-Arg}
use Rattle.meson_syntax.specs.declared.tree.Arg.TheOpen.{Arg-F, Expr-F, Tail-F, List-F, Operand-F}
use Rattle.meson_syntax.specs.declared.tree.Expr.{Expr, fold-Expr}
use Rattle.meson_syntax.specs.declared.tree.Tail.{fold-Tail}
use Rattle.meson_syntax.specs.declared.tree.Tail as rust_tail
use Rattle.meson_syntax.specs.declared.tree.List.{fold-List}
use Rattle.meson_syntax.specs.declared.tree.List as rust
use Rattle.meson_syntax.specs.declared.tree.Operand.{Operand, fold-Operand}
use Rattle.meson_syntax.specs.declared.tree.Stmt.{Stmt, fold-Stmt}
use Rattle.meson_syntax.specs.declared.tree.Stmt.TheOpen.{Stmt-F, Block-F, Branch-F}
use Rattle.meson_syntax.specs.declared.tree.Branch.{Branch, fold-Branch}
use Rattle.meson_syntax.specs.declared.tree.Block.{Block, fold-Block}
use Rattle.meson_syntax.specs.declared.tree.Parsed.{Parsed}

-- the greatest of some numbers, and 0 if the list is empty
abbrev pub greatest : List ℕ → ℕ
greatest [] = 0
greatest (n ∷ ns) = max n (greatest ns)

abbrev pub furthest_span : Span → ℕ
furthest_span span = max span.from span.to

abbrev pub furthest_spans : List Span → ℕ
furthest_spans spans = greatest (map furthest_span spans)

-- ---- expressions

abbrev arg_step : Arg-F ℕ ℕ ℕ ℕ ℕ → ℕ
arg_step (Arg-F.Plain value) = value
arg_step (Arg-F.Named span name value) = max (furthest_span span) (max (furthest_span name) value)
arg_step (Arg-F.Pair span key value) = max (furthest_span span) (max key value)

abbrev expr_step : Expr-F ℕ ℕ ℕ ℕ ℕ → ℕ
expr_step (Expr-F.Identifier span) = furthest_span span
expr_step (Expr-F.Boolean span value) = furthest_span span
expr_step (Expr-F.Integer span) = furthest_span span
expr_step (Expr-F.String span kind) = furthest_span span
expr_step (Expr-F.Paren span inside) = max (furthest_span span) inside
expr_step (Expr-F.Array list) = list
expr_step (Expr-F.Dictionary list) = list
expr_step (Expr-F.Call span name arguments) = max (furthest_span span) (max (furthest_span name) arguments)
expr_step (Expr-F.Unary span operator operand) = max (furthest_span span) operand
expr_step (Expr-F.Row span first rest) = max (furthest_span span) (max first (greatest rest))
expr_step (Expr-F.Postfix span base tails) = max (furthest_span span) (max base (greatest tails))
expr_step (Expr-F.Conditional span condition so else_so) = max (furthest_span span) (max condition (max so else_so))

abbrev tail_step : Tail-F ℕ ℕ ℕ ℕ ℕ → ℕ
tail_step (Tail-F.Method span name arguments) = max (furthest_span span) (max (furthest_span name) arguments)
tail_step (Tail-F.Index span index) = max (furthest_span span) index

abbrev list_step : List-F ℕ ℕ ℕ ℕ ℕ → ℕ
list_step l = max (furthest_span l.span) (greatest l.items)

abbrev operand_step : Operand-F ℕ ℕ ℕ ℕ ℕ → ℕ
operand_step o = o.value

abbrev pub furthest_expr : Expr → ℕ
furthest_expr = fold-Expr ℕ ℕ ℕ ℕ ℕ arg_step expr_step tail_step list_step operand_step

abbrev pub furthest_arg : Arg → ℕ
furthest_arg = fold-Arg ℕ ℕ ℕ ℕ ℕ arg_step expr_step tail_step list_step operand_step

abbrev pub furthest_tail : rust_tail.Tail → ℕ
furthest_tail = fold-Tail ℕ ℕ ℕ ℕ ℕ arg_step expr_step tail_step list_step operand_step

abbrev pub furthest_list : rust.List → ℕ
furthest_list = fold-List ℕ ℕ ℕ ℕ ℕ arg_step expr_step tail_step list_step operand_step

abbrev pub furthest_operand : Operand → ℕ
furthest_operand = fold-Operand ℕ ℕ ℕ ℕ ℕ arg_step expr_step tail_step list_step operand_step

abbrev pub furthest_args : List Arg → ℕ
furthest_args args = greatest (map furthest_arg args)

abbrev pub furthest_tails : List rust_tail.Tail → ℕ
furthest_tails tails = greatest (map furthest_tail tails)

abbrev pub furthest_operands : List Operand → ℕ
furthest_operands operands = greatest (map furthest_operand operands)

-- ---- statements

abbrev otherwise_step : Option ℕ → ℕ
otherwise_step None = 0
otherwise_step (Some n) = n

abbrev stmt_step : Stmt-F ℕ ℕ ℕ → ℕ
stmt_step (Stmt-F.Expr value) = furthest_expr value
stmt_step (Stmt-F.Assign span name assignment value) = max (furthest_span span) (max (furthest_span name) (furthest_expr value))
stmt_step (Stmt-F.If span branches last) = max (furthest_span span) (max (greatest branches) (otherwise_step last))
stmt_step (Stmt-F.Foreach span names items body) =
    max (furthest_span span) (max (furthest_spans names) (max (furthest_expr items) body))
stmt_step (Stmt-F.Break span) = furthest_span span
stmt_step (Stmt-F.Continue span) = furthest_span span

abbrev block_step : Block-F ℕ ℕ ℕ → ℕ
block_step b = max (furthest_span b.span) (greatest b.statements)

abbrev branch_step : Branch-F ℕ ℕ ℕ → ℕ
branch_step b = max (furthest_expr b.condition) b.block

abbrev pub furthest_stmt : Stmt → ℕ
furthest_stmt = fold-Stmt ℕ ℕ ℕ stmt_step block_step branch_step

abbrev pub furthest_block : Block → ℕ
furthest_block = fold-Block ℕ ℕ ℕ stmt_step block_step branch_step

abbrev pub furthest_branch : Branch → ℕ
furthest_branch = fold-Branch ℕ ℕ ℕ stmt_step block_step branch_step

abbrev pub furthest_stmts : List Stmt → ℕ
furthest_stmts stmts = greatest (map furthest_stmt stmts)

abbrev pub furthest_branches : List Branch → ℕ
furthest_branches branches = greatest (map furthest_branch branches)

abbrev pub furthest_otherwise : Option Block → ℕ
furthest_otherwise None = 0
furthest_otherwise (Some b) = furthest_block b

-- ---- files

abbrev pub furthest : Parsed → ℕ
furthest p = max (furthest_span p.span) (furthest_block p.block)
