-- The expressions and statements of a project, each with its place, in file order and source order: each is before those within it.
use Rattle.std.specs.Prelude.{ℕ, ◌+◌, List, [], ◌∷◌, ◌++◌}
use Rattle.meson_syntax.specs.Tree.{Expression, identifier, boolean, integer, string, paren, array, dictionary, call, unary, row, postfix, conditional, Operands, no_operands, operand, Tail, method, index, Tails, no_tails, tail, Listing, listing, Argument, plain, named, pair, Arguments, no_arguments, argument, Statement, evaluate, assign, selection, iteration, breaks, continues, Branches, no_branches, branch, Otherwise, nothing_else, otherwise, Statements, no_statements, statement, Block, block, File, file}
use Rattle.meson_calls.specs.declared.call.CallRef.{CallRef}
use Rattle.meson_calls.specs.Project.{Project, place, child, Placed, placed}

pub data Part (S : Type 0) : Type 0 where
  an_expression : Expression S → Part S
  a_statement : Statement S → Part S

-- ---- the number of children of what has no place of its own

abbrev pub argument_child_count : {S : Type 0} → Argument S → ℕ
argument_child_count (plain e) = 1
argument_child_count (named s x e) = 1
argument_child_count (pair s e f) = 2

abbrev pub arguments_child_count : {S : Type 0} → Arguments S → ℕ
arguments_child_count no_arguments = 0
arguments_child_count (argument a more) = argument_child_count a + arguments_child_count more

abbrev pub listing_child_count : {S : Type 0} → Listing S → ℕ
listing_child_count (listing s trailing list) = arguments_child_count list

abbrev pub tail_child_count : {S : Type 0} → Tail S → ℕ
tail_child_count (method s x l) = listing_child_count l
tail_child_count (index s e) = 1

abbrev pub branches_child_count : {S : Type 0} → Branches S → ℕ
branches_child_count no_branches = 0
branches_child_count (branch e b more) = 2 + branches_child_count more

-- ---- parts of an expression at a place; of lists within it, from its n-th child on

abbrev mutual
  pub parts_of_expression : {S : Type 0} → CallRef → Expression S → List (Placed (Part S))
  parts_of_expression p (identifier s x) = placed p (an_expression (identifier s x)) ∷ []
  parts_of_expression p (boolean s b) = placed p (an_expression (boolean s b)) ∷ []
  parts_of_expression p (integer s x) = placed p (an_expression (integer s x)) ∷ []
  parts_of_expression p (string s q x) = placed p (an_expression (string s q x)) ∷ []
  parts_of_expression p (paren s e) = placed p (an_expression (paren s e)) ∷ parts_of_expression (child p 0) e
  parts_of_expression p (array l) = placed p (an_expression (array l)) ∷ parts_of_listing p 0 l
  parts_of_expression p (dictionary l) = placed p (an_expression (dictionary l)) ∷ parts_of_listing p 0 l
  parts_of_expression p (call s x l) = placed p (an_expression (call s x l)) ∷ parts_of_listing p 0 l
  parts_of_expression p (unary s o e) = placed p (an_expression (unary s o e)) ∷ parts_of_expression (child p 0) e
  parts_of_expression p (row s e os) = placed p (an_expression (row s e os)) ∷ (parts_of_expression (child p 0) e ++ parts_of_operands p 1 os)
  parts_of_expression p (postfix s e ts) = placed p (an_expression (postfix s e ts)) ∷ (parts_of_expression (child p 0) e ++ parts_of_tails p 1 ts)
  parts_of_expression p (conditional s c y n) =
      placed p (an_expression (conditional s c y n)) ∷ (parts_of_expression (child p 0) c
      ++ (parts_of_expression (child p 1) y ++ parts_of_expression (child p 2) n))

  pub parts_of_operands : {S : Type 0} → CallRef → ℕ → Operands S → List (Placed (Part S))
  parts_of_operands p n no_operands = []
  parts_of_operands p n (operand o e more) = parts_of_expression (child p n) e ++ parts_of_operands p (n + 1) more

  pub parts_of_tail : {S : Type 0} → CallRef → ℕ → Tail S → List (Placed (Part S))
  parts_of_tail p n (method s x l) = parts_of_listing p n l
  parts_of_tail p n (index s e) = parts_of_expression (child p n) e

  pub parts_of_tails : {S : Type 0} → CallRef → ℕ → Tails S → List (Placed (Part S))
  parts_of_tails p n no_tails = []
  parts_of_tails p n (tail t more) = parts_of_tail p n t ++ parts_of_tails p (n + tail_child_count t) more

  pub parts_of_listing : {S : Type 0} → CallRef → ℕ → Listing S → List (Placed (Part S))
  parts_of_listing p n (listing s trailing list) = parts_of_arguments p n list

  pub parts_of_argument : {S : Type 0} → CallRef → ℕ → Argument S → List (Placed (Part S))
  parts_of_argument p n (plain e) = parts_of_expression (child p n) e
  parts_of_argument p n (named s x e) = parts_of_expression (child p n) e
  parts_of_argument p n (pair s e f) = parts_of_expression (child p n) e ++ parts_of_expression (child p (n + 1)) f

  pub parts_of_arguments : {S : Type 0} → CallRef → ℕ → Arguments S → List (Placed (Part S))
  parts_of_arguments p n no_arguments = []
  parts_of_arguments p n (argument a more) = parts_of_argument p n a ++ parts_of_arguments p (n + argument_child_count a) more

-- ---- parts of statements

abbrev mutual
  pub parts_of_statement : {S : Type 0} → CallRef → Statement S → List (Placed (Part S))
  parts_of_statement p (evaluate e) = placed p (a_statement (evaluate e)) ∷ parts_of_expression (child p 0) e
  parts_of_statement p (assign s x a e) = placed p (a_statement (assign s x a e)) ∷ parts_of_expression (child p 0) e
  parts_of_statement p (selection s bs o) = placed p (a_statement (selection s bs o))
      ∷ (parts_of_branches p 0 bs ++ parts_of_otherwise p (branches_child_count bs) o)
  parts_of_statement p (iteration s xs e b) = placed p (a_statement (iteration s xs e b)) ∷ (parts_of_expression (child p 0) e ++ parts_of_block (child p 1) b)
  parts_of_statement p (breaks s) = placed p (a_statement (breaks s)) ∷ []
  parts_of_statement p (continues s) = placed p (a_statement (continues s)) ∷ []

  pub parts_of_branches : {S : Type 0} → CallRef → ℕ → Branches S → List (Placed (Part S))
  parts_of_branches p n no_branches = []
  parts_of_branches p n (branch e b more) = parts_of_expression (child p n) e ++ (parts_of_block (child p (n + 1)) b ++ parts_of_branches p (n + 2) more)

  pub parts_of_otherwise : {S : Type 0} → CallRef → ℕ → Otherwise S → List (Placed (Part S))
  parts_of_otherwise p n nothing_else = []
  parts_of_otherwise p n (otherwise b) = parts_of_block (child p n) b

  pub parts_of_statements : {S : Type 0} → CallRef → ℕ → Statements S → List (Placed (Part S))
  parts_of_statements p n no_statements = []
  parts_of_statements p n (statement s more) = parts_of_statement (child p n) s ++ parts_of_statements p (n + 1) more

  pub parts_of_block : {S : Type 0} → CallRef → Block S → List (Placed (Part S))
  parts_of_block p (block s list) = parts_of_statements p 0 list

-- ---- of files, of which the first has the number n

abbrev pub parts_of_file : {S : Type 0} → ℕ → File S → List (Placed (Part S))
parts_of_file n (file s b) = parts_of_block (place n []) b

abbrev pub parts_from : {S : Type 0} → ℕ → Project S → List (Placed (Part S))
parts_from n [] = []
parts_from n (f ∷ files) = parts_of_file n f.tree ++ parts_from (n + 1) files

abbrev pub parts : {S : Type 0} → Project S → List (Placed (Part S))
parts p = parts_from 0 p
