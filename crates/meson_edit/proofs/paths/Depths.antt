-- A thing with another node in one of its holes is no deeper than before by more than that node is.
use Rattle.meson_edit.proofs.Words.{◌≡◌, ℕ, ◌+◌, ◌≤◌, Bool, List, [], ◌∷◌, ◌++◌, Some, arith, Word, new_line, Kind, mark, comma_words, operator_words}
use Rattle.meson_edit.proofs.Words.{expression_words, tail_words, tails_words, argument_words, arguments_words, statement_words, branches_words}
use Rattle.meson_edit.proofs.Words.{otherwise_words, block_words, expression_depth, operands_depth, tail_depth, tails_depth, listing_depth, argument_depth}
use Rattle.meson_edit.proofs.Words.{arguments_depth, statement_depth, branches_depth, otherwise_depth, statements_depth, block_depth, opens, closes, Sort}
use Rattle.meson_edit.proofs.Words.{of_expression, of_statement, of_block, Node, Hole, all_around, argument_children, arguments_children, listing_children}
use Rattle.meson_edit.proofs.Words.{operands_children, tail_children, tails_children, expression_children, branches_children, otherwise_children}
use Rattle.meson_edit.proofs.Words.{statement_children, statements_children, block_children, children, nth_hole, Expression, identifier, boolean, integer}
use Rattle.meson_edit.proofs.Words.{string, paren, array, dictionary, call, unary, row, postfix, conditional, Operands, no_operands, operand, Tail, method}
use Rattle.meson_edit.proofs.Words.{index, Tails, no_tails, tail, Listing, listing, Argument, plain, named, pair, Arguments, no_arguments, argument, Statement}
use Rattle.meson_edit.proofs.Words.{evaluate, assign, selection, iteration, breaks, continues, Branches, no_branches, branch, Otherwise, nothing_else}
use Rattle.meson_edit.proofs.Words.{otherwise, Statements, no_statements, statement, Block, block, Bracket, Every, every-append, every-around, every-nth}
use Rattle.meson_lex.specs.declared.kinds.Kind.TheVariants as k
use Rattle.meson_syntax.specs.declared.operator.Bracket.TheVariants as bracket

module _ (S : Type 0) where
  abbrev pub node_depth : (sort : Sort) → Node sort S → ℕ
  node_depth of_expression e = expression_depth e
  node_depth of_statement s = statement_depth s
  node_depth of_block b = block_depth b

  -- another node in the hole makes this deeper by no more than the node is deeper
  abbrev pub Grows : (T : Type 0) → (T → ℕ) → T → Hole S T → Type 0
  Grows T depth x h = (y : Node h.sort S) (k : ℕ) → node_depth h.sort y ≤ node_depth h.sort h.inside + k → depth (h.back y) ≤ depth x + k

  -- The holes of a part, in a whole that grows with the part.
  part-grows : (T U : Type 0) (depth : T → ℕ) (whole : U → ℕ) (before behind : List Word) (make : T → U) (x : T)
      → ((z : T) (k : ℕ) → depth z ≤ depth x + k → whole (make z) ≤ whole (make x) + k)
      → (hs : List (Hole S T)) → Every (Grows T depth x) hs → Every (Grows U whole (make x)) (all_around before behind make hs)
  part-grows T U depth whole before behind make x grows hs =
      every-around (Grows T depth x) (Grows U whole (make x)) before behind make (λ h g y k l. grows (h.back y) k (g y k l)) hs

  -- ---- expressions

  argument-grows : (a : Argument S) → Every (Grows (Argument S) argument_depth a) (argument_children a)
  argument-grows (plain e) = (λ y k l. l, tt)
  argument-grows (named s x e) = (λ y k l. l, tt)
  argument-grows (pair s e f) = (λ y k l. omega (arith, l), (λ y k l. omega (arith, l), tt))

  arguments-grow : (list : Arguments S) (trailing : Bool) → Every (Grows (Arguments S) arguments_depth list) (arguments_children list trailing)
  arguments-grow no_arguments trailing = tt
  arguments-grow (argument a more) trailing =
      every-append (Grows (Arguments S) arguments_depth (argument a more)) _ _
      (part-grows (Argument S) (Arguments S) argument_depth arguments_depth [] (comma_words more trailing ++ arguments_words more trailing) (λ x. argument x more) a (λ z k l. omega (arith, l)) (argument_children a) (argument-grows a))
      (part-grows (Arguments S) (Arguments S) arguments_depth arguments_depth (argument_words a ++ comma_words more trailing) [] (argument a) more (λ z k l. omega (arith, l)) (arguments_children more trailing) (arguments-grow more trailing))

  listing-grows : (l : Listing S) (b : Bracket) → Every (Grows (Listing S) listing_depth l) (listing_children l b)
  listing-grows (listing s trailing list) b =
      part-grows (Arguments S) (Listing S) arguments_depth listing_depth (mark (opens b)) (mark (closes b)) (listing s trailing) list (λ z k l. omega (arith, l)) (arguments_children list trailing) (arguments-grow list trailing)

  operands-grow : (os : Operands S) → Every (Grows (Operands S) operands_depth os) (operands_children os)
  operands-grow no_operands = tt
  operands-grow (operand o e more) = (
    λ y k l. omega (arith, l),
    part-grows (Operands S) (Operands S) operands_depth operands_depth (operator_words o ++ expression_words e) [] (operand o e) more (λ z k l. omega (arith, l)) (operands_children more) (operands-grow more),
  )

  tail-grows : (t : Tail S) → Every (Grows (Tail S) tail_depth t) (tail_children t)
  tail-grows (method s x l) = part-grows (Listing S) (Tail S) listing_depth tail_depth (mark k.Dot ++ (k.Identifier, x.text) ∷ []) [] (method s x) l (λ z k g. g) (listing_children l bracket.Round) (listing-grows l bracket.Round)
  tail-grows (index s e) = (λ y k l. omega (arith, l), tt)

  tails-grow : (ts : Tails S) → Every (Grows (Tails S) tails_depth ts) (tails_children ts)
  tails-grow no_tails = tt
  tails-grow (tail t more) =
      every-append (Grows (Tails S) tails_depth (tail t more)) _ _
      (part-grows (Tail S) (Tails S) tail_depth tails_depth [] (tails_words more) (λ x. tail x more) t (λ z k l. omega (arith, l)) (tail_children t) (tail-grows t))
      (part-grows (Tails S) (Tails S) tails_depth tails_depth (tail_words t) [] (tail t) more (λ z k l. omega (arith, l)) (tails_children more) (tails-grow more))

  expression-grows : (e : Expression S) → Every (Grows (Expression S) expression_depth e) (expression_children e)
  expression-grows (identifier s x) = tt
  expression-grows (boolean s b) = tt
  expression-grows (integer s x) = tt
  expression-grows (string s q x) = tt
  expression-grows (paren s e) = (λ y k l. omega (arith, l), tt)
  expression-grows (array l) = part-grows (Listing S) (Expression S) listing_depth expression_depth [] [] array l (λ z k g. g) (listing_children l bracket.Square) (listing-grows l bracket.Square)
  expression-grows (dictionary l) = part-grows (Listing S) (Expression S) listing_depth expression_depth [] [] dictionary l (λ z k g. g) (listing_children l bracket.Curly) (listing-grows l bracket.Curly)
  expression-grows (call s x l) = part-grows (Listing S) (Expression S) listing_depth expression_depth ((k.Identifier, x.text) ∷ []) [] (call s x) l (λ z k g. g) (listing_children l bracket.Round) (listing-grows l bracket.Round)
  expression-grows (unary s o e) = (λ y k l. l, tt)
  expression-grows (row s e os) = (
    λ y k l. omega (arith, l),
    part-grows (Operands S) (Expression S) operands_depth expression_depth (expression_words e) [] (row s e) os (λ z k l. omega (arith, l)) (operands_children os) (operands-grow os),
  )
  expression-grows (postfix s e ts) = (
    λ y k l. omega (arith, l),
    part-grows (Tails S) (Expression S) tails_depth expression_depth (expression_words e) [] (postfix s e) ts (λ z k l. omega (arith, l)) (tails_children ts) (tails-grow ts),
  )
  expression-grows (conditional s c y n) = (λ z k l. omega (arith, l), (λ z k l. omega (arith, l), (λ z k l. omega (arith, l), tt)))

  -- ---- statements

  branches-grow : (bs : Branches S) (word : Kind) → Every (Grows (Branches S) branches_depth bs) (branches_children bs word)
  branches-grow no_branches word = tt
  branches-grow (branch e b more) word = (
    λ y k l. omega (arith, l),
    (
      λ y k l. omega (arith, l),
      part-grows (Branches S) (Branches S) branches_depth branches_depth (mark word ++ (expression_words e ++ (new_line ∷ block_words b))) [] (branch e b) more (λ z k l. omega (arith, l)) (branches_children more k.WordElif) (branches-grow more k.WordElif),
    ),
  )

  otherwise-grows : (o : Otherwise S) → Every (Grows (Otherwise S) otherwise_depth o) (otherwise_children o)
  otherwise-grows nothing_else = tt
  otherwise-grows (otherwise b) = (λ y k l. l, tt)

  statement-grows : (s : Statement S) → Every (Grows (Statement S) statement_depth s) (statement_children s)
  statement-grows (evaluate e) = (λ y k l. l, tt)
  statement-grows (assign s x a e) = (λ y k l. l, tt)
  statement-grows (selection s bs o) =
      every-append (Grows (Statement S) statement_depth (selection s bs o)) _ _
      (part-grows (Branches S) (Statement S) branches_depth statement_depth [] (otherwise_words o ++ mark k.WordEndif) (λ x. selection s x o) bs (λ z k l. omega (arith, l)) (branches_children bs k.WordIf) (branches-grow bs k.WordIf))
      (part-grows (Otherwise S) (Statement S) otherwise_depth statement_depth (branches_words bs k.WordIf) (mark k.WordEndif) (selection s bs) o (λ z k l. omega (arith, l)) (otherwise_children o) (otherwise-grows o))
  statement-grows (iteration s xs e b) = (λ y k l. omega (arith, l), (λ y k l. omega (arith, l), tt))
  statement-grows (breaks s) = tt
  statement-grows (continues s) = tt

  statements-grow : (list : Statements S) → Every (Grows (Statements S) statements_depth list) (statements_children list)
  statements-grow no_statements = tt
  statements-grow (statement s more) = (
    λ y k l. omega (arith, l),
    part-grows (Statements S) (Statements S) statements_depth statements_depth (statement_words s ++ new_line ∷ []) [] (statement s) more (λ z k l. omega (arith, l)) (statements_children more) (statements-grow more),
  )

  block-grows : (b : Block S) → Every (Grows (Block S) block_depth b) (block_children b)
  block-grows (block s list) = part-grows (Statements S) (Block S) statements_depth block_depth [] [] (block s) list (λ z k g. g) (statements_children list) (statements-grow list)

  -- ---- nodes

  children-grow : (sort : Sort) (x : Node sort S) → Every (Grows (Node sort S) (node_depth sort) x) (children S sort x)
  children-grow of_expression e = expression-grows e
  children-grow of_statement s = statement-grows s
  children-grow of_block b = block-grows b

  pub child-grows : (sort : Sort) (x : Node sort S) (n : ℕ) (h : Hole S (Node sort S)) → nth_hole S sort x n ≡ Some h → Grows (Node sort S) (node_depth sort) x h
  child-grows sort x n h is = every-nth (Grows (Node sort S) (node_depth sort) x) (children S sort x) n h (children-grow sort x) is
