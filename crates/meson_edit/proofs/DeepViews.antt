-- How deep the nodes of the code's trees are, case by case.
use Rattle.meson_edit.proofs.Words.{max, rules, ◌≡◌, ℕ, suc, List, Option, None, Some, Span, expression_depth, operands_depth, tail_depth, tails_depth}
use Rattle.meson_edit.proofs.Words.{listing_depth, argument_depth, arguments_depth, statement_depth, branches_depth, otherwise_depth, statements_depth}
use Rattle.meson_edit.proofs.Words.{block_depth, operands_of, tails_of, arguments_of, branches_of, statements_of, expr_view, operand_view, operands_view}
use Rattle.meson_edit.proofs.Words.{tail_view, tails_view, arg_view, list_view, args_view, stmt_view, stmts_view, block_view, branch_view, branches_view}
use Rattle.meson_edit.proofs.Words.{otherwise_view, Assignment, Arg, Expr, Stmt}
use Rattle.meson_syntax.specs.declared.operator.UnaryOperator.{UnaryOperator}
use Rattle.meson_syntax.specs.declared.tree.List as rust
use Rattle.meson_syntax.specs.declared.tree.Operand as rust_operand
use Rattle.meson_syntax.specs.declared.tree.Tail as rust_tail
use Rattle.meson_syntax.specs.declared.tree.Block as rust_block
use Rattle.meson_syntax.specs.declared.tree.Branch as rust_branch
use Rattle.meson_syntax.specs.declared.tree.Expr.TheVariants as expr
use Rattle.meson_syntax.specs.declared.tree.Tail.TheVariants as rust_tails
use Rattle.meson_syntax.specs.declared.tree.Arg.TheVariants as arg
use Rattle.meson_syntax.specs.declared.tree.Stmt.TheVariants as stmt
use Rattle.meson_syntax.specs.declared.tree.Arg.TheFolds.{the_lemmas}
use Rattle.meson_syntax.specs.declared.tree.Stmt.TheFolds.{the_lemmas as statement_lemmas}
use Rattle.meson_edit.specs.inside.Depths.{branch_depth}

module _ (source : List ℕ) where
  pub deep_paren : (s : Span) (e : Expr) → expression_depth (expr_view source (expr.Paren s e)) ≡ suc (expression_depth (expr_view source e))
  deep_paren s e = search (rules, the_lemmas)

  pub deep_array : (l : rust.List) → expression_depth (expr_view source (expr.Array l)) ≡ listing_depth (list_view source l)
  deep_array l = search (rules, the_lemmas)

  pub deep_dictionary : (l : rust.List) → expression_depth (expr_view source (expr.Dictionary l)) ≡ listing_depth (list_view source l)
  deep_dictionary l = search (rules, the_lemmas)

  pub deep_call : (s name : Span) (l : rust.List) → expression_depth (expr_view source (expr.Call s name l)) ≡ listing_depth (list_view source l)
  deep_call s name l = search (rules, the_lemmas)

  pub deep_unary : (s : Span) (o : UnaryOperator) (e : Expr) → expression_depth (expr_view source (expr.Unary s o e)) ≡ expression_depth (expr_view source e)
  deep_unary s o e = search (rules, the_lemmas)

  pub deep_row : (s : Span) (e : Expr) (os : List rust_operand.Operand)
      → expression_depth (expr_view source (expr.Row s e os)) ≡ max (expression_depth (expr_view source e)) (operands_depth (operands_of (operands_view source os)))
  deep_row s e os = search (rules, the_lemmas)

  pub deep_postfix : (s : Span) (e : Expr) (ts : List rust_tail.Tail)
      → expression_depth (expr_view source (expr.Postfix s e ts)) ≡ max (expression_depth (expr_view source e)) (tails_depth (tails_of (tails_view source ts)))
  deep_postfix s e ts = search (rules, the_lemmas)

  pub deep_conditional : (s : Span) (c y n : Expr) → expression_depth (expr_view source (expr.Conditional s c y n))
      ≡ max (expression_depth (expr_view source c)) (suc (max (expression_depth (expr_view source y)) (expression_depth (expr_view source n))))
  deep_conditional s c y n = search (rules, the_lemmas)

  pub deep_operand : (o : rust_operand.Operand) → expression_depth (operand_view source o).1 ≡ expression_depth (expr_view source (rust_operand.out-Operand o).value)
  deep_operand o = search (rules, the_lemmas)

  pub deep_method : (s name : Span) (l : rust.List) → tail_depth (tail_view source (rust_tails.Method s name l)) ≡ listing_depth (list_view source l)
  deep_method s name l = search (rules, the_lemmas)

  pub deep_index : (s : Span) (e : Expr) → tail_depth (tail_view source (rust_tails.Index s e)) ≡ suc (expression_depth (expr_view source e))
  deep_index s e = search (rules, the_lemmas)

  pub deep_list : (l : rust.List) → listing_depth (list_view source l) ≡ suc (arguments_depth (arguments_of (args_view source (rust.out-List l).items)))
  deep_list l = search (rules, the_lemmas)

  pub deep_plain : (e : Expr) → argument_depth (arg_view source (arg.Plain e)) ≡ expression_depth (expr_view source e)
  deep_plain e = search (rules, the_lemmas)

  pub deep_named : (s name : Span) (e : Expr) → argument_depth (arg_view source (arg.Named s name e)) ≡ expression_depth (expr_view source e)
  deep_named s name e = search (rules, the_lemmas)

  pub deep_pair : (s : Span) (e f : Expr) → argument_depth (arg_view source (arg.Pair s e f)) ≡ max (expression_depth (expr_view source e)) (expression_depth (expr_view source f))
  deep_pair s e f = search (rules, the_lemmas)

  -- ---- statements

  pub deep_evaluate : (e : Expr) → statement_depth (stmt_view source (stmt.Expr e)) ≡ expression_depth (expr_view source e)
  deep_evaluate e = search (rules, statement_lemmas)

  pub deep_assign : (s name : Span) (a : Assignment) (e : Expr) → statement_depth (stmt_view source (stmt.Assign s name a e)) ≡ expression_depth (expr_view source e)
  deep_assign s name a e = search (rules, statement_lemmas)

  pub deep_if : (s : Span) (bs : List rust_branch.Branch) (o : Option rust_block.Block) → statement_depth (stmt_view source (stmt.If s bs o))
      ≡ suc (max (branches_depth (branches_of (branches_view source bs))) (otherwise_depth (otherwise_view source o)))
  deep_if s bs None = search (rules, statement_lemmas)
  deep_if s bs (Some b) = search (rules, statement_lemmas)

  pub deep_foreach : (s : Span) (names : List Span) (e : Expr) (b : rust_block.Block) → statement_depth (stmt_view source (stmt.Foreach s names e b))
      ≡ suc (max (expression_depth (expr_view source e)) (block_depth (block_view source b)))
  deep_foreach s names e b = search (rules, statement_lemmas)

  pub deep_block : (b : rust_block.Block) → block_depth (block_view source b) ≡ statements_depth (statements_of (stmts_view source (rust_block.out-Block b).statements))
  deep_block b = search (rules, statement_lemmas)

  pub deep_branch : (b : rust_branch.Branch) → branch_depth (branch_view source b)
      ≡ max (expression_depth (expr_view source (rust_branch.out-Branch b).condition)) (block_depth (block_view source (rust_branch.out-Branch b).block))
  deep_branch b = search (rules, statement_lemmas)

  -- ---- depths of parts

  abbrev pub expr_deep : Expr → ℕ
  expr_deep e = expression_depth (expr_view source e)

  abbrev pub operand_deep : rust_operand.Operand → ℕ
  operand_deep o = expression_depth (operand_view source o).1

  abbrev pub operands_deep : List rust_operand.Operand → ℕ
  operands_deep os = operands_depth (operands_of (operands_view source os))

  abbrev pub tail_deep : rust_tail.Tail → ℕ
  tail_deep t = tail_depth (tail_view source t)

  abbrev pub tails_deep : List rust_tail.Tail → ℕ
  tails_deep ts = tails_depth (tails_of (tails_view source ts))

  abbrev pub arg_deep : Arg → ℕ
  arg_deep a = argument_depth (arg_view source a)

  abbrev pub args_deep : List Arg → ℕ
  args_deep xs = arguments_depth (arguments_of (args_view source xs))

  abbrev pub stmt_deep : Stmt → ℕ
  stmt_deep s = statement_depth (stmt_view source s)

  abbrev pub stmts_deep : List Stmt → ℕ
  stmts_deep ss = statements_depth (statements_of (stmts_view source ss))

  abbrev pub branch_deep : rust_branch.Branch → ℕ
  branch_deep b = branch_depth (branch_view source b)

  abbrev pub branches_deep : List rust_branch.Branch → ℕ
  branches_deep bs = branches_depth (branches_of (branches_view source bs))

  abbrev pub block_deep : rust_block.Block → ℕ
  block_deep b = block_depth (block_view source b)

  abbrev pub otherwise_deep : Option rust_block.Block → ℕ
  otherwise_deep o = otherwise_depth (otherwise_view source o)
