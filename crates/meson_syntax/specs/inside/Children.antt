-- The children of nodes as the code looks them up: lists of nodes, without the words around them, and the node that a path names.
use Rattle.std.specs.Prelude.{ℕ, zero, suc, List, [], ◌∷◌, ◌++◌, Option, Some, None, option_and_then}
use Rattle.meson_lex.specs.declared.kinds.Span.{Span}
use Rattle.meson_syntax.specs.declared.path.Node as rust_node
use Rattle.meson_syntax.specs.declared.path.Node.TheVariants as rust
use Rattle.meson_syntax.specs.declared.path.Found as rust_found
use Rattle.meson_syntax.specs.declared.path.Found.TheVariants as rust_looked
use Rattle.meson_syntax.specs.declared.tree.Arg.{Arg}
use Rattle.meson_syntax.specs.declared.tree.Tail as rust_tail
use Rattle.meson_syntax.specs.declared.tree.Operand as rust_operand
use Rattle.meson_syntax.specs.declared.tree.Branch.{Branch}
use Rattle.meson_syntax.specs.declared.tree.Stmt.{Stmt}
use Rattle.meson_syntax.specs.declared.operator.Operator.{Operator}
use Rattle.meson_syntax.specs.Tree.{Expression, paren, array, dictionary, call, unary, row, postfix, conditional, Operands, no_operands, operand, Tails, no_tails, tail, Statement, evaluate, assign, selection, iteration, breaks, continues, Otherwise, nothing_else, otherwise, Statements, no_statements, statement, Block, block, arguments_of, operands_of, tails_of, branches_of, statements_of}
use Rattle.meson_syntax.specs.Paths.{Sort, of_expression, of_statement, of_block, Node, nth}
use Rattle.meson_syntax.specs.View.{expr_view, args_view, operands_view, tails_view, stmt_view, stmts_view, branches_view, block_view}
use Rattle.meson_syntax.specs.Children.{Any, arguments_parts, listing_parts, tail_parts, branches_parts, a_block, a_statement, an_expression}

abbrev pub any_of : (S : Type 0) (sort : Sort) → Node sort S → Any S
any_of S of_expression e = an_expression e
any_of S of_statement s = a_statement s
any_of S of_block b = a_block b

abbrev pub operand_parts : {S : Type 0} → Operator × Expression S → List (Any S)
operand_parts o = an_expression o.1 ∷ []

abbrev pub operands_parts : {S : Type 0} → Operands S → List (Any S)
operands_parts no_operands = []
operands_parts (operand o e more) = an_expression e ∷ operands_parts more

abbrev pub tails_parts : {S : Type 0} → Tails S → List (Any S)
tails_parts no_tails = []
tails_parts (tail t more) = tail_parts t ++ tails_parts more

abbrev pub expression_parts : {S : Type 0} → Expression S → List (Any S)
expression_parts (paren s e) = an_expression e ∷ []
expression_parts (array l) = listing_parts l
expression_parts (dictionary l) = listing_parts l
expression_parts (call s x l) = listing_parts l
expression_parts (unary s o e) = an_expression e ∷ []
expression_parts (row s e os) = an_expression e ∷ operands_parts os
expression_parts (postfix s e ts) = an_expression e ∷ tails_parts ts
expression_parts (conditional s c y n) = an_expression c ∷ an_expression y ∷ an_expression n ∷ []
expression_parts _ = []

abbrev pub branch_parts : {S : Type 0} → Expression S × Block S → List (Any S)
branch_parts b = an_expression b.0 ∷ a_block b.1 ∷ []

abbrev pub otherwise_parts : {S : Type 0} → Otherwise S → List (Any S)
otherwise_parts nothing_else = []
otherwise_parts (otherwise b) = a_block b ∷ []

abbrev pub statement_parts : {S : Type 0} → Statement S → List (Any S)
statement_parts (evaluate e) = an_expression e ∷ []
statement_parts (assign s x a e) = an_expression e ∷ []
statement_parts (selection s bs o) = branches_parts bs ++ otherwise_parts o
statement_parts (iteration s xs e b) = an_expression e ∷ a_block b ∷ []
statement_parts (breaks s) = []
statement_parts (continues s) = []

abbrev pub statements_parts : {S : Type 0} → Statements S → List (Any S)
statements_parts no_statements = []
statements_parts (statement s more) = a_statement s ∷ statements_parts more

abbrev pub block_parts : {S : Type 0} → Block S → List (Any S)
block_parts (block s list) = statements_parts list

abbrev pub child_nodes : {S : Type 0} → Any S → List (Any S)
child_nodes (an_expression e) = expression_parts e
child_nodes (a_statement s) = statement_parts s
child_nodes (a_block b) = block_parts b

abbrev pub expression_any : {S : Type 0} → Any S → Option (Expression S)
expression_any (an_expression e) = Some e
expression_any (a_statement s) = None
expression_any (a_block b) = None

abbrev pub node_at : {S : Type 0} → Any S → List ℕ → Option (Any S)
node_at x [] = Some x
node_at x (n ∷ path) = option_and_then (λ y. node_at y path) (nth (child_nodes x) n)

-- the n-th of the nodes, or how much of n is left after the last of them
pub data Found (X : Type 0) : Type 0 where
  found : X → Found X
  left : ℕ → Found X

abbrev pub look : {X : Type 0} → List X → ℕ → Found X
look [] n = left n
look (x ∷ xs) zero = found x
look (x ∷ xs) (suc n) = look xs n

abbrev pub option_of : {X : Type 0} → Found X → Option X
option_of (found x) = Some x
option_of (left n) = None

module _ (source : List ℕ) where
  abbrev pub node_view : rust_node.Node → Any Span
  node_view (rust.Expr e) = an_expression (expr_view source e.now)
  node_view (rust.Stmt s) = a_statement (stmt_view source s.now)
  node_view (rust.Block b) = a_block (block_view source b.now)

  abbrev pub found_view : rust_found.Found → Found (Any Span)
  found_view (rust_looked.Node x) = found (node_view x)
  found_view (rust_looked.Left n) = left n

  -- the parts of arguments, tails and branches of the code
  abbrev pub args_parts : List Arg → List (Any Span)
  args_parts args = arguments_parts (arguments_of (args_view source args))

  abbrev pub rust_tails_parts : List rust_tail.Tail → List (Any Span)
  rust_tails_parts tails = tails_parts (tails_of (tails_view source tails))

  abbrev pub rust_operands_parts : List rust_operand.Operand → List (Any Span)
  rust_operands_parts os = operands_parts (operands_of (operands_view source os))

  abbrev pub rust_branches_parts : List Branch → List (Any Span)
  rust_branches_parts branches = branches_parts (branches_of (branches_view source branches))

  abbrev pub rust_statements_parts : List Stmt → List (Any Span)
  rust_statements_parts stmts = statements_parts (statements_of (stmts_view source stmts))
