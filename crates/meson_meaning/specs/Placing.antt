-- Build files whose nodes carry their places.
use Rattle.std.specs.Prelude.{ℕ, suc, ◌+◌, [], ◌∷◌, map}
use Rattle.meson_syntax.specs.Tree.{Name, Expression, identifier, boolean, integer, string, paren, array, dictionary, call, unary, row, postfix, conditional, Operands, no_operands, operand, Tail, method, index, Tails, no_tails, tail, Listing, listing, plain, named, pair, Arguments, no_arguments, argument, Statement, evaluate, assign, selection, iteration, breaks, continues, Branches, no_branches, branch, Otherwise, nothing_else, otherwise, Statements, no_statements, statement, Block, block, File, file}
use Rattle.meson_calls.specs.declared.call.CallRef.{CallRef}
use Rattle.meson_calls.specs.Parts.{branches_child_count, tail_child_count}
use Rattle.meson_calls.specs.Project.{Project, child, place}

-- ---- what has no place of its own carries that of the node that it is in

abbrev pub name_placed : {S : Type 0} → CallRef → Name S → Name CallRef
name_placed q x = record { place = q; text = x.text }

-- ---- an expression at a place; n is the number of the first child in a part of a node

abbrev mutual
  pub expression_placed : {S : Type 0} → CallRef → Expression S → Expression CallRef
  expression_placed q (identifier s x) = identifier q x
  expression_placed q (boolean s b) = boolean q b
  expression_placed q (integer s x) = integer q x
  expression_placed q (string s k x) = string q k x
  expression_placed q (paren s e) = paren q (expression_placed (child q 0) e)
  expression_placed q (array l) = array (listing_placed q l)
  expression_placed q (dictionary l) = dictionary (listing_placed q l)
  expression_placed q (call s f l) = call q (name_placed q f) (listing_placed q l)
  expression_placed q (unary s o e) = unary q o (expression_placed (child q 0) e)
  expression_placed q (row s e os) = row q (expression_placed (child q 0) e) (operands_placed q 1 os)
  expression_placed q (postfix s e ts) = postfix q (expression_placed (child q 0) e) (tails_placed q 1 ts)
  expression_placed q (conditional s c y n) =
      conditional q (expression_placed (child q 0) c) (expression_placed (child q 1) y) (expression_placed (child q 2) n)

  pub operands_placed : {S : Type 0} → CallRef → ℕ → Operands S → Operands CallRef
  operands_placed q n no_operands = no_operands
  operands_placed q n (operand o e more) = operand o (expression_placed (child q n) e) (operands_placed q (suc n) more)

  pub tail_placed : {S : Type 0} → CallRef → ℕ → Tail S → Tail CallRef
  tail_placed q n (method s f (listing r trailing list)) = method q (name_placed q f) (listing q trailing (arguments_placed q n list))
  tail_placed q n (index s e) = index q (expression_placed (child q n) e)

  pub tails_placed : {S : Type 0} → CallRef → ℕ → Tails S → Tails CallRef
  tails_placed q n no_tails = no_tails
  tails_placed q n (tail t more) = tail (tail_placed q n t) (tails_placed q (n + tail_child_count t) more)

  pub listing_placed : {S : Type 0} → CallRef → Listing S → Listing CallRef
  listing_placed q (listing s trailing list) = listing q trailing (arguments_placed q 0 list)

  pub arguments_placed : {S : Type 0} → CallRef → ℕ → Arguments S → Arguments CallRef
  arguments_placed q n no_arguments = no_arguments
  arguments_placed q n (argument (plain e) more) = argument (plain (expression_placed (child q n) e)) (arguments_placed q (suc n) more)
  arguments_placed q n (argument (named s x e) more) =
      argument (named q (name_placed q x) (expression_placed (child q n) e)) (arguments_placed q (suc n) more)
  arguments_placed q n (argument (pair s e f) more) =
      argument (pair q (expression_placed (child q n) e) (expression_placed (child q (suc n)) f)) (arguments_placed q (suc (suc n)) more)

-- ---- statements

abbrev mutual
  pub statement_placed : {S : Type 0} → CallRef → Statement S → Statement CallRef
  statement_placed q (evaluate e) = evaluate (expression_placed (child q 0) e)
  statement_placed q (assign s x a e) = assign q (name_placed q x) a (expression_placed (child q 0) e)
  statement_placed q (selection s bs o) = selection q (branches_placed q 0 bs) (otherwise_placed q (branches_child_count bs) o)
  statement_placed q (iteration s xs e b) = iteration q (map (name_placed q) xs) (expression_placed (child q 0) e) (block_placed (child q 1) b)
  statement_placed q (breaks s) = breaks q
  statement_placed q (continues s) = continues q

  pub branches_placed : {S : Type 0} → CallRef → ℕ → Branches S → Branches CallRef
  branches_placed q n no_branches = no_branches
  branches_placed q n (branch e b more) =
      branch (expression_placed (child q n) e) (block_placed (child q (suc n)) b) (branches_placed q (suc (suc n)) more)

  pub otherwise_placed : {S : Type 0} → CallRef → ℕ → Otherwise S → Otherwise CallRef
  otherwise_placed q n nothing_else = nothing_else
  otherwise_placed q n (otherwise b) = otherwise (block_placed (child q n) b)

  pub statements_placed : {S : Type 0} → CallRef → ℕ → Statements S → Statements CallRef
  statements_placed q n no_statements = no_statements
  statements_placed q n (statement s more) = statement (statement_placed (child q n) s) (statements_placed q (suc n) more)

  pub block_placed : {S : Type 0} → CallRef → Block S → Block CallRef
  block_placed q (block s list) = block q (statements_placed q 0 list)

-- ---- files, of which the first has the number n

abbrev pub tree_placed : {S : Type 0} → ℕ → File S → File CallRef
tree_placed n (file s b) = file (place n []) (block_placed (place n []) b)

abbrev pub placed_from : {S : Type 0} → ℕ → Project S → Project CallRef
placed_from n [] = []
placed_from n (f ∷ files) = record { name = f.name; tree = tree_placed n f.tree } ∷ placed_from (suc n) files

abbrev pub with_places : {S : Type 0} → Project S → Project CallRef
with_places p = placed_from 0 p
