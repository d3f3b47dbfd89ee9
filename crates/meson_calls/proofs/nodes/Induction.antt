-- What holds of a node where it holds of its children holds of every node.
use Rattle.meson_calls.proofs.Words.{⊤, ◌≡◌, ℕ, zero, suc, ◌+◌, List, [], ◌∷◌, ◌++◌, length, Some, refl, subst, arith, Any, an_expression, a_statement, a_block}
use Rattle.meson_calls.proofs.Words.{arguments_parts, branches_parts, listing_parts, tail_parts, nth, Expression, paren, array, dictionary, call, unary, row}
use Rattle.meson_calls.proofs.Words.{postfix, conditional, Operands, no_operands, operand, Tail, method, index, Tails, no_tails, tail, Listing, listing, plain}
use Rattle.meson_calls.proofs.Words.{named, pair, Arguments, no_arguments, argument, Statement, evaluate, assign, selection, iteration, Branches, no_branches}
use Rattle.meson_calls.proofs.Words.{branch, Otherwise, nothing_else, otherwise, Statements, no_statements, statement, Block, block, child_nodes}
use Rattle.meson_calls.proofs.Words.{operands_parts, otherwise_parts, statements_parts, tails_parts, some-injective}

-- `child c n` is where the n-th child of what is at `c` is.
module _ {S C : Type 0} (child : C → ℕ → C) (P : C → Any S → Type 0) where
  -- of nodes that are children from the n-th on
  abbrev pub Each : C → ℕ → List (Any S) → Type 0
  Each c n [] = ⊤
  Each c n (x ∷ xs) = P (child c n) x × Each c (n + 1) xs

  pub each_append : (c : C) (n m : ℕ) (xs ys : List (Any S)) → m ≡ n + length xs → Each c n xs → Each c m ys → Each c n (xs ++ ys)
  each_append c n m [] ys is first second = subst (λ k. Each c k ys) (omega (arith, is)) second
  each_append c n m (x ∷ xs) ys is first second = (first.0, each_append c (n + 1) m xs ys (omega (arith, is)) first.1 second)

  pub each_nth : (c : C) (n k m : ℕ) (xs : List (Any S)) (x : Any S) → m ≡ n + k → Each c n xs → nth xs k ≡ Some x → P (child c m) x
  each_nth c n k m [] x number each is = absurd cc
  each_nth c n zero m (y ∷ ys) x number each is = subst (P (child c m)) (some-injective y x is) (subst (λ i. P (child c i) y) (omega (arith, number)) each.0)
  each_nth c n (suc k) m (y ∷ ys) x number each is = each_nth c (n + 1) k m ys x (omega (arith, number)) each.1 is

  pub each_of_nth : (c : C) (n : ℕ) (xs : List (Any S)) → ((k m : ℕ) (x : Any S) → m ≡ n + k → nth xs k ≡ Some x → P (child c m) x) → Each c n xs
  each_of_nth c n [] all = tt
  each_of_nth c n (x ∷ xs) all = (all 0 n x (omega arith) refl, each_of_nth c (n + 1) xs (λ k m y number is. all (suc k) m y (omega (arith, number)) is))

  module _ (step : (c : C) (x : Any S) → Each c 0 (child_nodes x) → P c x) where
    mutual
      in_expression : (c : C) (e : Expression S) → P c (an_expression e)
      in_expression c (paren s e) = step c (an_expression (paren s e)) (in_expression (child c 0) e, tt)
      in_expression c (array l) = step c (an_expression (array l)) (in_listing c 0 l)
      in_expression c (dictionary l) = step c (an_expression (dictionary l)) (in_listing c 0 l)
      in_expression c (call s x l) = step c (an_expression (call s x l)) (in_listing c 0 l)
      in_expression c (unary s o e) = step c (an_expression (unary s o e)) (in_expression (child c 0) e, tt)
      in_expression c (row s e os) = step c (an_expression (row s e os)) (in_expression (child c 0) e, in_operands c 1 os)
      in_expression c (postfix s e ts) = step c (an_expression (postfix s e ts)) (in_expression (child c 0) e, in_tails c 1 ts)
      in_expression c (conditional s i y n) = step c (an_expression (conditional s i y n)) (in_expression (child c 0) i, (in_expression (child c 1) y, (in_expression (child c 2) n, tt)))
      in_expression c e = step c (an_expression e) tt

      in_listing : (c : C) (n : ℕ) (l : Listing S) → Each c n (listing_parts l)
      in_listing c n (listing s trailing list) = in_arguments c n list

      in_arguments : (c : C) (n : ℕ) (list : Arguments S) → Each c n (arguments_parts list)
      in_arguments c n no_arguments = tt
      in_arguments c n (argument (plain e) more) = (in_expression (child c n) e, in_arguments c (n + 1) more)
      in_arguments c n (argument (named s x e) more) = (in_expression (child c n) e, in_arguments c (n + 1) more)
      in_arguments c n (argument (pair s e f) more) = (in_expression (child c n) e, (in_expression (child c (n + 1)) f, in_arguments c (n + 1 + 1) more))

      in_operands : (c : C) (n : ℕ) (os : Operands S) → Each c n (operands_parts os)
      in_operands c n no_operands = tt
      in_operands c n (operand o e more) = (in_expression (child c n) e, in_operands c (n + 1) more)

      in_tail : (c : C) (n : ℕ) (t : Tail S) → Each c n (tail_parts t)
      in_tail c n (method s x l) = in_listing c n l
      in_tail c n (index s e) = (in_expression (child c n) e, tt)

      in_tails : (c : C) (n : ℕ) (ts : Tails S) → Each c n (tails_parts ts)
      in_tails c n no_tails = tt
      in_tails c n (tail t more) = let m = n + length (tail_parts t) in each_append c n m (tail_parts t) (tails_parts more) (omega arith) (in_tail c n t) (in_tails c m more)

    mutual
      in_statement : (c : C) (s : Statement S) → P c (a_statement s)
      in_statement c (evaluate e) = step c (a_statement (evaluate e)) (in_expression (child c 0) e, tt)
      in_statement c (assign s x a e) = step c (a_statement (assign s x a e)) (in_expression (child c 0) e, tt)
      in_statement c (selection s bs o) =
          let m = length (branches_parts bs) in
          step c (a_statement (selection s bs o)) (each_append c 0 m (branches_parts bs) (otherwise_parts o) (omega arith) (in_branches c 0 bs) (in_otherwise c m o))
      in_statement c (iteration s xs e b) = step c (a_statement (iteration s xs e b)) (in_expression (child c 0) e, (in_block (child c 1) b, tt))
      in_statement c s = step c (a_statement s) tt

      in_branches : (c : C) (n : ℕ) (bs : Branches S) → Each c n (branches_parts bs)
      in_branches c n no_branches = tt
      in_branches c n (branch e b more) = (in_expression (child c n) e, (in_block (child c (n + 1)) b, in_branches c (n + 1 + 1) more))

      in_otherwise : (c : C) (n : ℕ) (o : Otherwise S) → Each c n (otherwise_parts o)
      in_otherwise c n nothing_else = tt
      in_otherwise c n (otherwise b) = (in_block (child c n) b, tt)

      in_statements : (c : C) (n : ℕ) (list : Statements S) → Each c n (statements_parts list)
      in_statements c n no_statements = tt
      in_statements c n (statement s more) = (in_statement (child c n) s, in_statements c (n + 1) more)

      in_block : (c : C) (b : Block S) → P c (a_block b)
      in_block c (block s list) = step c (a_block (block s list)) (in_statements c 0 list)

    pub by_children : (c : C) (x : Any S) → P c x
    by_children c (an_expression e) = in_expression c e
    by_children c (a_statement s) = in_statement c s
    by_children c (a_block b) = in_block c b

  -- the same where the children are named by their numbers
  pub by_each_child : ((c : C) (x : Any S) → ((n : ℕ) (y : Any S) → nth (child_nodes x) n ≡ Some y → P (child c n) y) → P c x) → (c : C) (x : Any S) → P c x
  by_each_child step = by_children (λ c x each. step c x (λ n y is. each_nth c 0 n n (child_nodes x) y (omega arith) each is))
