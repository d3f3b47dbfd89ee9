-- Trees without some of the elements of their lists. Every place and every number counts in the trees as they were.
use Rattle.std.specs.Prelude.{ℕ, suc, ◌+◌, Bool, List, [], ◌∷◌, length, if◌then◌else◌}
use Rattle.meson_syntax.specs.Children.{branches_parts, tail_parts}
use Rattle.meson_syntax.specs.Tree.{Nowhere, Plain, Expression, paren, array, dictionary, call, unary, row, postfix, conditional, Operands, no_operands, operand, Tail, method, index, Tails, no_tails, tail, Listing, listing, Argument, plain, named, pair, Arguments, no_arguments, argument, arguments_of, Statement, evaluate, assign, selection, iteration, Branches, no_branches, branch, Otherwise, nothing_else, otherwise, Statements, no_statements, statement, Block, block, file}
use Rattle.meson_edit.specs.Edits.{with_elements}

-- which elements are removed, by the path that leads to their list from here, and their number in it
abbrev pub Gone : Type 0
Gone = List ℕ → ℕ → Bool

-- the same from the n-th child of what is here
abbrev pub from_child : ℕ → Gone → Gone
from_child n gone path k = gone (n ∷ path) k

-- the list without the elements at some numbers
abbrev pub but : {X : Type 0} → (ℕ → Bool) → List X → List X
but gone [] = []
but gone (x ∷ xs) = if gone 0 then but (λ n. gone (suc n)) xs else x ∷ but (λ n. gone (suc n)) xs

-- Every node is as it was, and so are its children, without what is removed from the lists in them.
abbrev mutual
  pub expression_without : Gone → Expression Nowhere → Expression Nowhere
  expression_without g (paren s e) = paren s (expression_without (from_child 0 g) e)
  expression_without g (array l) = array (listing_without g l)
  expression_without g (dictionary l) = dictionary (listing_without g l)
  expression_without g (call s x l) = call s x (listing_without g l)
  expression_without g (unary s o e) = unary s o (expression_without (from_child 0 g) e)
  expression_without g (row s e os) = row s (expression_without (from_child 0 g) e) (operands_without g 1 os)
  expression_without g (postfix s e ts) = postfix s (expression_without (from_child 0 g) e) (tails_without g 1 ts)
  expression_without g (conditional s c y n) =
      conditional s (expression_without (from_child 0 g) c) (expression_without (from_child 1 g) y) (expression_without (from_child 2 g) n)
  expression_without g e = e

  -- The list of an array, a dictionary or a call has its other elements, in their order; if none is left it has no comma.
  pub listing_without : Gone → Listing Nowhere → Listing Nowhere
  listing_without g (listing s trailing list) = with_elements (listing s trailing list) (but (g []) (arguments_without g 0 list))

  -- here and below: n is the number of the first child in these parts of a node
  pub arguments_without : Gone → ℕ → Arguments Nowhere → List (Argument Nowhere)
  arguments_without g n no_arguments = []
  arguments_without g n (argument (plain e) more) = plain (expression_without (from_child n g) e) ∷ arguments_without g (suc n) more
  arguments_without g n (argument (named s x e) more) = named s x (expression_without (from_child n g) e) ∷ arguments_without g (suc n) more
  arguments_without g n (argument (pair s e f) more) =
      pair s (expression_without (from_child n g) e) (expression_without (from_child (suc n) g) f) ∷ arguments_without g (suc (suc n)) more

  pub operands_without : Gone → ℕ → Operands Nowhere → Operands Nowhere
  operands_without g n no_operands = no_operands
  operands_without g n (operand o e more) = operand o (expression_without (from_child n g) e) (operands_without g (suc n) more)

  pub tail_without : Gone → ℕ → Tail Nowhere → Tail Nowhere
  tail_without g n (method s x (listing r trailing list)) = method s x (listing r trailing (arguments_of (arguments_without g n list)))
  tail_without g n (index s e) = index s (expression_without (from_child n g) e)

  pub tails_without : Gone → ℕ → Tails Nowhere → Tails Nowhere
  tails_without g n no_tails = no_tails
  tails_without g n (tail t more) = tail (tail_without g n t) (tails_without g (n + length (tail_parts t)) more)

abbrev mutual
  pub statement_without : Gone → Statement Nowhere → Statement Nowhere
  statement_without g (evaluate e) = evaluate (expression_without (from_child 0 g) e)
  statement_without g (assign s x a e) = assign s x a (expression_without (from_child 0 g) e)
  statement_without g (selection s bs o) = selection s (branches_without g 0 bs) (otherwise_without g (length (branches_parts bs)) o)
  statement_without g (iteration s xs e b) = iteration s xs (expression_without (from_child 0 g) e) (block_without (from_child 1 g) b)
  statement_without g s = s

  pub branches_without : Gone → ℕ → Branches Nowhere → Branches Nowhere
  branches_without g n no_branches = no_branches
  branches_without g n (branch e b more) =
      branch (expression_without (from_child n g) e) (block_without (from_child (suc n) g) b) (branches_without g (suc (suc n)) more)

  pub otherwise_without : Gone → ℕ → Otherwise Nowhere → Otherwise Nowhere
  otherwise_without g n nothing_else = nothing_else
  otherwise_without g n (otherwise b) = otherwise (block_without (from_child n g) b)

  pub statements_without : Gone → ℕ → Statements Nowhere → Statements Nowhere
  statements_without g n no_statements = no_statements
  statements_without g n (statement s more) = statement (statement_without (from_child n g) s) (statements_without g (suc n) more)

  pub block_without : Gone → Block Nowhere → Block Nowhere
  block_without g (block s list) = block s (statements_without g 0 list)

abbrev pub tree_without : Gone → Plain → Plain
tree_without g (file s b) = file s (block_without g b)

-- trees of several files, by the number of the file
abbrev pub each_without : (ℕ → Gone) → List Plain → List Plain
each_without gone [] = []
each_without gone (t ∷ ts) = tree_without (gone 0) t ∷ each_without (λ n. gone (suc n)) ts
