-- Trees with one expression in the place of some others. Every place counts in the trees as they were.
use Rattle.std.specs.Prelude.{ℕ, suc, ◌+◌, Bool, List, [], ◌∷◌, length, if◌then◌else◌}
use Rattle.meson_syntax.specs.Children.{branches_parts, tail_parts}
use Rattle.meson_syntax.specs.Tree.{Nowhere, Plain, Expression, paren, array, dictionary, call, unary, row, postfix, conditional, Operands, no_operands, operand, Tail, method, index, Tails, no_tails, tail, Listing, listing, plain, named, pair, Arguments, no_arguments, argument, Statement, evaluate, assign, selection, iteration, Branches, no_branches, branch, Otherwise, nothing_else, otherwise, Statements, no_statements, statement, Block, block, file}

-- which expressions are exchanged, by the path that leads to them from here
abbrev pub Chosen : Type 0
Chosen = List ℕ → Bool

-- the same from the n-th child of what is here
abbrev pub under : ℕ → Chosen → Chosen
under n chosen path = chosen (n ∷ path)

-- Every node is as it was, and so are its children, but that each chosen expression is w.
abbrev mutual
  pub expression_with : Expression Nowhere → Chosen → Expression Nowhere → Expression Nowhere
  expression_with w g (paren s e) = if g [] then w else paren s (expression_with w (under 0 g) e)
  expression_with w g (array l) = if g [] then w else array (listing_with w g l)
  expression_with w g (dictionary l) = if g [] then w else dictionary (listing_with w g l)
  expression_with w g (call s x l) = if g [] then w else call s x (listing_with w g l)
  expression_with w g (unary s o e) = if g [] then w else unary s o (expression_with w (under 0 g) e)
  expression_with w g (row s e os) = if g [] then w else row s (expression_with w (under 0 g) e) (operands_with w g 1 os)
  expression_with w g (postfix s e ts) = if g [] then w else postfix s (expression_with w (under 0 g) e) (tails_with w g 1 ts)
  expression_with w g (conditional s c y n) = if g [] then w else
      conditional s (expression_with w (under 0 g) c) (expression_with w (under 1 g) y) (expression_with w (under 2 g) n)
  expression_with w g e = if g [] then w else e

  -- each list has as many elements
  pub listing_with : Expression Nowhere → Chosen → Listing Nowhere → Listing Nowhere
  listing_with w g (listing s trailing list) = listing s trailing (arguments_with w g 0 list)

  -- here and below: n is the number of the first child in these parts of a node
  pub arguments_with : Expression Nowhere → Chosen → ℕ → Arguments Nowhere → Arguments Nowhere
  arguments_with w g n no_arguments = no_arguments
  arguments_with w g n (argument (plain e) more) = argument (plain (expression_with w (under n g) e)) (arguments_with w g (suc n) more)
  arguments_with w g n (argument (named s x e) more) = argument (named s x (expression_with w (under n g) e)) (arguments_with w g (suc n) more)
  arguments_with w g n (argument (pair s e f) more) =
      argument (pair s (expression_with w (under n g) e) (expression_with w (under (suc n) g) f)) (arguments_with w g (suc (suc n)) more)

  pub operands_with : Expression Nowhere → Chosen → ℕ → Operands Nowhere → Operands Nowhere
  operands_with w g n no_operands = no_operands
  operands_with w g n (operand o e more) = operand o (expression_with w (under n g) e) (operands_with w g (suc n) more)

  pub tail_with : Expression Nowhere → Chosen → ℕ → Tail Nowhere → Tail Nowhere
  tail_with w g n (method s x (listing r trailing list)) = method s x (listing r trailing (arguments_with w g n list))
  tail_with w g n (index s e) = index s (expression_with w (under n g) e)

  pub tails_with : Expression Nowhere → Chosen → ℕ → Tails Nowhere → Tails Nowhere
  tails_with w g n no_tails = no_tails
  tails_with w g n (tail t more) = tail (tail_with w g n t) (tails_with w g (n + length (tail_parts t)) more)

abbrev mutual
  pub statement_with : Expression Nowhere → Chosen → Statement Nowhere → Statement Nowhere
  statement_with w g (evaluate e) = evaluate (expression_with w (under 0 g) e)
  statement_with w g (assign s x a e) = assign s x a (expression_with w (under 0 g) e)
  statement_with w g (selection s bs o) = selection s (branches_with w g 0 bs) (otherwise_with w g (length (branches_parts bs)) o)
  statement_with w g (iteration s xs e b) = iteration s xs (expression_with w (under 0 g) e) (block_with w (under 1 g) b)
  statement_with w g s = s

  pub branches_with : Expression Nowhere → Chosen → ℕ → Branches Nowhere → Branches Nowhere
  branches_with w g n no_branches = no_branches
  branches_with w g n (branch e b more) =
      branch (expression_with w (under n g) e) (block_with w (under (suc n) g) b) (branches_with w g (suc (suc n)) more)

  pub otherwise_with : Expression Nowhere → Chosen → ℕ → Otherwise Nowhere → Otherwise Nowhere
  otherwise_with w g n nothing_else = nothing_else
  otherwise_with w g n (otherwise b) = otherwise (block_with w (under n g) b)

  pub statements_with : Expression Nowhere → Chosen → ℕ → Statements Nowhere → Statements Nowhere
  statements_with w g n no_statements = no_statements
  statements_with w g n (statement s more) = statement (statement_with w (under n g) s) (statements_with w g (suc n) more)

  pub block_with : Expression Nowhere → Chosen → Block Nowhere → Block Nowhere
  block_with w g (block s list) = block s (statements_with w g 0 list)

abbrev pub tree_with : Expression Nowhere → Chosen → Plain → Plain
tree_with w g (file s b) = file s (block_with w g b)

-- trees of several files, by the number of the file
abbrev pub each_with : Expression Nowhere → (ℕ → Chosen) → List Plain → List Plain
each_with w chosen [] = []
each_with w chosen (t ∷ ts) = tree_with w (chosen 0) t ∷ each_with w (λ n. chosen (suc n)) ts
