-- The parts of a node are itself, if it is one, and those of its children.
use Rattle.meson_calls.proofs.Words.{◌≡◌, ℕ, ◌+◌, List, [], ◌∷◌, ◌++◌, length, length-append, refl, sym, ap, ap₂, ◌∙◌, arith, Any, an_expression, a_statement}
use Rattle.meson_calls.proofs.Words.{a_block, argument_parts, arguments_parts, branches_parts, listing_parts, tail_parts, Expression, paren, array, dictionary}
use Rattle.meson_calls.proofs.Words.{call, unary, row, postfix, conditional, Operands, no_operands, operand, Tail, method, index, Tails, no_tails, tail}
use Rattle.meson_calls.proofs.Words.{Listing, listing, Argument, plain, named, pair, Arguments, no_arguments, argument, Statement, evaluate, assign, selection}
use Rattle.meson_calls.proofs.Words.{iteration, Branches, no_branches, branch, Otherwise, nothing_else, otherwise, Statements, no_statements, statement, block}
use Rattle.meson_calls.proofs.Words.{child_nodes, expression_parts, operands_parts, otherwise_parts, statement_parts, statements_parts, tails_parts, Part}
use Rattle.meson_calls.proofs.Words.{argument_child_count, arguments_child_count, branches_child_count, parts_of_arguments, parts_of_block, parts_of_branches}
use Rattle.meson_calls.proofs.Words.{parts_of_expression, parts_of_listing, parts_of_operands, parts_of_otherwise, parts_of_statement, parts_of_statements}
use Rattle.meson_calls.proofs.Words.{parts_of_tail, parts_of_tails, tail_child_count, Placed, child, placed, CallRef}
use Rattle.std.proofs.Common.{append_assoc, append-nil}
use Rattle.meson_calls.specs.Parts as part

abbrev pub any : {S : Type 0} → Part S → Any S
any (part.an_expression e) = an_expression e
any (part.a_statement s) = a_statement s

module _ {S : Type 0} where
  abbrev pub parts_of : CallRef → Any S → List (Placed (Part S))
  parts_of p (an_expression e) = parts_of_expression p e
  parts_of p (a_statement s) = parts_of_statement p s
  parts_of p (a_block b) = parts_of_block p b

  -- the node itself, if it is a part
  abbrev pub itself : CallRef → Any S → List (Placed (Part S))
  itself p (an_expression e) = placed p (part.an_expression e) ∷ []
  itself p (a_statement s) = placed p (part.a_statement s) ∷ []
  itself p (a_block b) = []

  -- of nodes that are children from the n-th on
  abbrev pub parts_below : CallRef → ℕ → List (Any S) → List (Placed (Part S))
  parts_below p n [] = []
  parts_below p n (x ∷ xs) = parts_of (child p n) x ++ parts_below p (n + 1) xs

  below_append : (p : CallRef) (n m : ℕ) (xs ys : List (Any S)) → m ≡ n + length xs → parts_below p n (xs ++ ys) ≡ parts_below p n xs ++ parts_below p m ys
  below_append p n m [] ys is = let same : n ≡ m = omega (arith, is) in ap (λ k. parts_below p k ys) same
  below_append p n m (x ∷ xs) ys is =
      ap (λ l. parts_of (child p n) x ++ l) (below_append p (n + 1) m xs ys (omega (arith, is))) ∙ sym (append_assoc (parts_of (child p n) x) (parts_below p (n + 1) xs) (parts_below p m ys))

  alone : (p : CallRef) (x : Any S) → parts_of p x ≡ parts_of p x ++ []
  alone p x = sym (append-nil (parts_of p x))

  -- ---- how many children there are

  argument_count : (a : Argument S) → argument_child_count a ≡ length (argument_parts a)
  argument_count (plain e) = refl
  argument_count (named s x e) = refl
  argument_count (pair s e f) = refl

  arguments_count : (list : Arguments S) → arguments_child_count list ≡ length (arguments_parts list)
  arguments_count no_arguments = refl
  arguments_count (argument a more) = let one = argument_count a in let others = arguments_count more in omega (arith, one, others, length-append (argument_parts a) (arguments_parts more))

  tail_count : (t : Tail S) → tail_child_count t ≡ length (tail_parts t)
  tail_count (method s x (listing z trailing list)) = arguments_count list
  tail_count (index s e) = refl

  branches_count : (bs : Branches S) → branches_child_count bs ≡ length (branches_parts bs)
  branches_count no_branches = refl
  branches_count (branch e b more) = let others = branches_count more in omega (arith, others)

  -- ---- node by node

  pub arguments_are : (p : CallRef) (n : ℕ) (list : Arguments S) → parts_of_arguments p n list ≡ parts_below p n (arguments_parts list)
  arguments_are p n no_arguments = refl
  arguments_are p n (argument (plain e) more) = ap (λ l. parts_of_expression (child p n) e ++ l) (arguments_are p (n + 1) more)
  arguments_are p n (argument (named s x e) more) = ap (λ l. parts_of_expression (child p n) e ++ l) (arguments_are p (n + 1) more)
  arguments_are p n (argument (pair s e f) more) =
      let two : n + 2 ≡ n + 1 + 1 = omega arith in
      append_assoc (parts_of_expression (child p n) e) (parts_of_expression (child p (n + 1)) f) (parts_of_arguments p (n + 2) more)
      ∙ ap (λ l. parts_of_expression (child p n) e ++ (parts_of_expression (child p (n + 1)) f ++ l)) (ap (λ k. parts_of_arguments p k more) two ∙ arguments_are p (n + 1 + 1) more)

  listing_are : (p : CallRef) (n : ℕ) (l : Listing S) → parts_of_listing p n l ≡ parts_below p n (listing_parts l)
  listing_are p n (listing s trailing list) = arguments_are p n list

  operands_are : (p : CallRef) (n : ℕ) (os : Operands S) → parts_of_operands p n os ≡ parts_below p n (operands_parts os)
  operands_are p n no_operands = refl
  operands_are p n (operand o e more) = ap (λ l. parts_of_expression (child p n) e ++ l) (operands_are p (n + 1) more)

  tail_are : (p : CallRef) (n : ℕ) (t : Tail S) → parts_of_tail p n t ≡ parts_below p n (tail_parts t)
  tail_are p n (method s x l) = listing_are p n l
  tail_are p n (index s e) = alone (child p n) (an_expression e)

  tails_are : (p : CallRef) (n : ℕ) (ts : Tails S) → parts_of_tails p n ts ≡ parts_below p n (tails_parts ts)
  tails_are p n no_tails = refl
  tails_are p n (tail t more) =
      let m = n + tail_child_count t in
      ap₂ (λ l r. l ++ r) (tail_are p n t) (tails_are p m more) ∙ sym (below_append p n m (tail_parts t) (tails_parts more) (ap (λ k. n + k) (tail_count t)))

  branches_are : (p : CallRef) (n : ℕ) (bs : Branches S) → parts_of_branches p n bs ≡ parts_below p n (branches_parts bs)
  branches_are p n no_branches = refl
  branches_are p n (branch e b more) =
      let two : n + 2 ≡ n + 1 + 1 = omega arith in
      ap (λ l. parts_of_expression (child p n) e ++ (parts_of_block (child p (n + 1)) b ++ l)) (ap (λ k. parts_of_branches p k more) two ∙ branches_are p (n + 1 + 1) more)

  otherwise_are : (p : CallRef) (n : ℕ) (o : Otherwise S) → parts_of_otherwise p n o ≡ parts_below p n (otherwise_parts o)
  otherwise_are p n nothing_else = refl
  otherwise_are p n (otherwise b) = alone (child p n) (a_block b)

  statements_are : (p : CallRef) (n : ℕ) (list : Statements S) → parts_of_statements p n list ≡ parts_below p n (statements_parts list)
  statements_are p n no_statements = refl
  statements_are p n (statement s more) = ap (λ l. parts_of_statement (child p n) s ++ l) (statements_are p (n + 1) more)

  behind : (p : CallRef) (x : Any S) {l r : List (Placed (Part S))} → l ≡ r → itself p x ++ l ≡ itself p x ++ r
  behind p x same = ap (λ l. itself p x ++ l) same

  expression_is : (p : CallRef) (e : Expression S) → parts_of_expression p e ≡ itself p (an_expression e) ++ parts_below p 0 (expression_parts e)
  expression_is p (paren s e) = behind p (an_expression (paren s e)) (alone (child p 0) (an_expression e))
  expression_is p (array l) = behind p (an_expression (array l)) (listing_are p 0 l)
  expression_is p (dictionary l) = behind p (an_expression (dictionary l)) (listing_are p 0 l)
  expression_is p (call s x l) = behind p (an_expression (call s x l)) (listing_are p 0 l)
  expression_is p (unary s o e) = behind p (an_expression (unary s o e)) (alone (child p 0) (an_expression e))
  expression_is p (row s e os) = behind p (an_expression (row s e os)) (ap (λ l. parts_of_expression (child p 0) e ++ l) (operands_are p 1 os))
  expression_is p (postfix s e ts) = behind p (an_expression (postfix s e ts)) (ap (λ l. parts_of_expression (child p 0) e ++ l) (tails_are p 1 ts))
  expression_is p (conditional s c y n) =
      behind p (an_expression (conditional s c y n)) (ap (λ l. parts_of_expression (child p 0) c ++ (parts_of_expression (child p 1) y ++ l)) (alone (child p 2) (an_expression n)))
  expression_is p _ = refl

  statement_is : (p : CallRef) (s : Statement S) → parts_of_statement p s ≡ itself p (a_statement s) ++ parts_below p 0 (statement_parts s)
  statement_is p (evaluate e) = behind p (a_statement (evaluate e)) (alone (child p 0) (an_expression e))
  statement_is p (assign s x a e) = behind p (a_statement (assign s x a e)) (alone (child p 0) (an_expression e))
  statement_is p (selection s bs o) =
      let m = branches_child_count bs in
      behind p (a_statement (selection s bs o))
      (ap₂ (λ l r. l ++ r) (branches_are p 0 bs) (otherwise_are p m o) ∙ sym (below_append p 0 m (branches_parts bs) (otherwise_parts o) (let many = branches_count bs in omega (arith, many))))
  statement_is p (iteration s xs e b) = behind p (a_statement (iteration s xs e b)) (ap (λ l. parts_of_expression (child p 0) e ++ l) (alone (child p 1) (a_block b)))
  statement_is p _ = refl

  pub parts_are : (p : CallRef) (x : Any S) → parts_of p x ≡ itself p x ++ parts_below p 0 (child_nodes x)
  parts_are p (an_expression e) = expression_is p e
  parts_are p (a_statement s) = statement_is p s
  parts_are p (a_block (block s list)) = statements_are p 0 list
