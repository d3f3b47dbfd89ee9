-- The value of the code for a tree: the tree without its texts.
use Rattle.std.specs.Prelude.{List, [], ◌∷◌, map, Option, Some, None}
use Rattle.meson_lex.specs.declared.kinds.Span.{Span}
use Rattle.meson_syntax.specs.declared.tree.Arg.{Arg}
use Rattle.meson_syntax.specs.declared.tree.Arg.TheOpen.{Arg-F, Expr-F, Tail-F}
use Rattle.meson_syntax.specs.declared.tree.Arg.TheViews.{roll-Arg, roll-Expr, roll-Tail, roll-List, roll-Operand}
use Rattle.meson_syntax.specs.declared.tree.Expr.{Expr}
use Rattle.meson_syntax.specs.declared.tree.Tail as rust_tail
use Rattle.meson_syntax.specs.declared.tree.List as rust
use Rattle.meson_syntax.specs.declared.tree.Operand.{Operand}
use Rattle.meson_syntax.specs.declared.tree.Stmt.{Stmt}
use Rattle.meson_syntax.specs.declared.tree.Stmt.TheOpen.{Stmt-F}
use Rattle.meson_syntax.specs.declared.tree.Stmt.TheViews.{roll-Stmt, roll-Block, roll-Branch}
use Rattle.meson_syntax.specs.declared.tree.Branch.{Branch}
use Rattle.meson_syntax.specs.declared.tree.Block as rust_block
use Rattle.meson_syntax.specs.declared.tree.Parsed.{Parsed}
use Rattle.meson_syntax.specs.Tree.{Name, Expression, identifier, boolean, integer, string, paren, array, dictionary, call, unary, row, postfix, conditional, Operands, no_operands, operand, Tail, method, index, Tails, no_tails, tail, Listing, listing, Argument, plain, named, pair, Arguments, no_arguments, argument, Statement, evaluate, assign, selection, iteration, breaks, continues, Branches, no_branches, branch, Otherwise, nothing_else, otherwise, Statements, no_statements, statement, Block, block, File, file}

abbrev pub places_of_names : List (Name Span) → List Span
places_of_names = map (λ name. name.place)

abbrev mutual
  pub code_expression : Expression Span → Expr
  code_expression (identifier s x) = roll-Expr (Expr-F.Identifier s)
  code_expression (boolean s b) = roll-Expr (Expr-F.Boolean s b)
  code_expression (integer s x) = roll-Expr (Expr-F.Integer s)
  code_expression (string s q x) = roll-Expr (Expr-F.String s q)
  code_expression (paren s e) = roll-Expr (Expr-F.Paren s (code_expression e))
  code_expression (array l) = roll-Expr (Expr-F.Array (code_listing l))
  code_expression (dictionary l) = roll-Expr (Expr-F.Dictionary (code_listing l))
  code_expression (call s x l) = roll-Expr (Expr-F.Call s x.place (code_listing l))
  code_expression (unary s o e) = roll-Expr (Expr-F.Unary s o (code_expression e))
  code_expression (row s e os) = roll-Expr (Expr-F.Row s (code_expression e) (code_operands os))
  code_expression (postfix s e ts) = roll-Expr (Expr-F.Postfix s (code_expression e) (code_tails ts))
  code_expression (conditional s c y n) = roll-Expr (Expr-F.Conditional s (code_expression c) (code_expression y) (code_expression n))

  pub code_operands : Operands Span → List Operand
  code_operands no_operands = []
  code_operands (operand o e more) = roll-Operand (record { operator = o; value = code_expression e }) ∷ code_operands more

  pub code_tail : Tail Span → rust_tail.Tail
  code_tail (method s x l) = roll-Tail (Tail-F.Method s x.place (code_listing l))
  code_tail (index s e) = roll-Tail (Tail-F.Index s (code_expression e))

  pub code_tails : Tails Span → List rust_tail.Tail
  code_tails no_tails = []
  code_tails (tail t more) = code_tail t ∷ code_tails more

  pub code_listing : Listing Span → rust.List
  code_listing (listing s trailing list) = roll-List (record { items = code_arguments list; trailing = trailing; span = s })

  pub code_argument : Argument Span → Arg
  code_argument (plain e) = roll-Arg (Arg-F.Plain (code_expression e))
  code_argument (named s x e) = roll-Arg (Arg-F.Named s x.place (code_expression e))
  code_argument (pair s e f) = roll-Arg (Arg-F.Pair s (code_expression e) (code_expression f))

  pub code_arguments : Arguments Span → List Arg
  code_arguments no_arguments = []
  code_arguments (argument a more) = code_argument a ∷ code_arguments more

abbrev mutual
  pub code_statement : Statement Span → Stmt
  code_statement (evaluate e) = roll-Stmt (Stmt-F.Expr (code_expression e))
  code_statement (assign s x a e) = roll-Stmt (Stmt-F.Assign s x.place a (code_expression e))
  code_statement (selection s bs o) = roll-Stmt (Stmt-F.If s (code_branches bs) (code_otherwise o))
  code_statement (iteration s xs e b) = roll-Stmt (Stmt-F.Foreach s (places_of_names xs) (code_expression e) (code_block b))
  code_statement (breaks s) = roll-Stmt (Stmt-F.Break s)
  code_statement (continues s) = roll-Stmt (Stmt-F.Continue s)

  pub code_branches : Branches Span → List Branch
  code_branches no_branches = []
  code_branches (branch e b more) = roll-Branch (record { condition = code_expression e; block = code_block b }) ∷ code_branches more

  pub code_otherwise : Otherwise Span → Option rust_block.Block
  code_otherwise nothing_else = None
  code_otherwise (otherwise b) = Some (code_block b)

  pub code_statements : Statements Span → List Stmt
  code_statements no_statements = []
  code_statements (statement s more) = code_statement s ∷ code_statements more

  pub code_block : Block Span → rust_block.Block
  code_block (block s statements) = roll-Block (record { statements = code_statements statements; span = s })

abbrev pub code_file : File Span → Parsed
code_file (file s b) = record { block = code_block b; span = s }
