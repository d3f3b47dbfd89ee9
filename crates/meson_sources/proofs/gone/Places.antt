-- Where nodes stand in trees without some elements, and how many elements are left before others.
use Rattle.meson_sources.proofs.Words.{if◌then◌else◌, nat_eq, nat_lt, option_and_then, ◌⊎◌, [], add-one, ap, ap₂, arith, Bool, false, inl, inr, length, List}
use Rattle.meson_sources.proofs.Words.{None, refl, Some, subst, suc, sym, true, zero, ℕ, ◌++◌, ◌+◌, ◌<◌, ◌∙◌, ◌∷◌, ◌≡◌, ◌≤◌, eq-eqb, eqb-true, ltb-false}
use Rattle.meson_sources.proofs.Words.{ltb-true, a_block, a_statement, an_expression, arguments_parts, branches_parts, listing_parts, tail_parts, nth, argument}
use Rattle.meson_sources.proofs.Words.{argument_list, Arguments, arguments_of, array, assign, block, branch, Branches, call, conditional, dictionary, evaluate}
use Rattle.meson_sources.proofs.Words.{index, iteration, Listing, listing, method, named, no_arguments, no_branches, no_operands, no_statements, no_tails}
use Rattle.meson_sources.proofs.Words.{nothing_else, Nowhere, operand, Operands, Otherwise, otherwise, pair, paren, plain, postfix, row, selection, statement}
use Rattle.meson_sources.proofs.Words.{Statements, Tail, tail, Tails, unary, child_nodes, node_at, operands_parts, otherwise_parts, statements_parts}
use Rattle.meson_sources.proofs.Words.{tails_parts, some-injective, Every, and-then-some, elements, arguments_without, block_without, branches_without, but}
use Rattle.meson_sources.proofs.Words.{expression_without, from_child, Gone, listing_without, operands_without, otherwise_without, statement_without}
use Rattle.meson_sources.proofs.Words.{statements_without, tail_without, tails_without}
use Rattle.meson_sources.proofs.gone.Spots.{but_none}
use Rattle.meson_sources.proofs.trees.Elements.{HasOnePart, Node, list_any}

-- ==== Where a node stands in a tree without some elements of its lists, and what it is there.

abbrev pub any_without : Gone → Node → Node
any_without g (an_expression e) = an_expression (expression_without g e)
any_without g (a_statement s) = a_statement (statement_without g s)
any_without g (a_block b) = a_block (block_without g b)

-- how many of the first n are left
abbrev pub left_before : (ℕ → Bool) → ℕ → ℕ
left_before gone zero = 0
left_before gone (suc n) = if gone 0 then left_before (λ k. gone (suc k)) n else suc (left_before (λ k. gone (suc k)) n)

-- where what stood at a path stands
abbrev pub path_left : Gone → List ℕ → List ℕ
path_left g [] = []
path_left g (n ∷ path) = left_before (g []) n ∷ path_left (from_child n g) path

-- what goes under a path
abbrev pub under_path : Gone → List ℕ → Gone
under_path g [] = g
under_path g (n ∷ path) = under_path (from_child n g) path

pub under_is : (path : List ℕ) (g : Gone) → under_path g path ≡ (λ q k. g (path ++ q) k)
under_is [] g = refl
under_is (n ∷ path) g = under_is path (from_child n g)

pub nth_but : {X : Type 0} (gone : ℕ → Bool) (xs : List X) (n : ℕ) (x : X) → nth xs n ≡ Some x → gone n ≡ false → nth (but gone xs) (left_before gone n) ≡ Some x
nth_but gone [] n x is stays = absurd cc
nth_but gone (y ∷ ys) zero x is stays = ap (λ b. nth (if b then but (λ k. gone (suc k)) ys else y ∷ but (λ k. gone (suc k)) ys) 0) stays ∙ is
nth_but gone (y ∷ ys) (suc n) x is stays = go (gone 0) (nth_but (λ k. gone (suc k)) ys n x is stays)
  where
    go : (b : Bool) → nth (but (λ k. gone (suc k)) ys) (left_before (λ k. gone (suc k)) n) ≡ Some x
        → nth (if b then but (λ k. gone (suc k)) ys else y ∷ but (λ k. gone (suc k)) ys) (if b then left_before (λ k. gone (suc k)) n else suc (left_before (λ k. gone (suc k)) n)) ≡ Some x
    go true rest = rest
    go false rest = rest

pub before_all : (gone : ℕ → Bool) → ((k : ℕ) → gone k ≡ false) → (n : ℕ) → left_before gone n ≡ n
before_all gone none zero = refl
before_all gone none (suc n) = ap (λ b. if b then left_before (λ k. gone (suc k)) n else suc (left_before (λ k. gone (suc k)) n)) (none 0) ∙ ap suc (before_all (λ k. gone (suc k)) (λ k. none (suc k)) n)

-- ---- the children of a node

module _ (g : Gone) where
  abbrev pub each_child : ℕ → List Node → List Node
  each_child n [] = []
  each_child n (x ∷ xs) = any_without (from_child n g) x ∷ each_child (suc n) xs

  each_append : (n : ℕ) (xs ys : List Node) → each_child n (xs ++ ys) ≡ each_child n xs ++ each_child (n + length xs) ys
  each_append n [] ys = let same : n ≡ n + 0 = omega arith in ap (λ k. each_child k ys) same
  each_append n (x ∷ xs) ys =
      let same : suc n + length xs ≡ n + suc (length xs) = omega arith in
      ap (λ l. any_without (from_child n g) x ∷ l) (each_append (suc n) xs ys ∙ ap (λ k. each_child (suc n) xs ++ each_child k ys) same)

  nth_each : (n m : ℕ) (xs : List Node) (x : Node) → nth xs m ≡ Some x → nth (each_child n xs) m ≡ Some (any_without (from_child (n + m) g) x)
  nth_each n m [] x is = absurd cc
  nth_each n zero (y ∷ ys) x is = let same : n ≡ n + 0 = omega arith in ap₂ (λ k z. Some (any_without (from_child k g) z)) same (some-injective _ _ is)
  nth_each n (suc m) (y ∷ ys) x is = let same : suc n + m ≡ n + suc m = omega arith in nth_each (suc n) m ys x is ∙ ap (λ k. Some (any_without (from_child k g) x)) same

  arguments_each : (n : ℕ) (list : Arguments Nowhere) → arguments_parts (arguments_of (arguments_without g n list)) ≡ each_child n (arguments_parts list)
  arguments_each n no_arguments = refl
  arguments_each n (argument (plain e) more) = ap (λ l. an_expression (expression_without (from_child n g) e) ∷ l) (arguments_each (suc n) more)
  arguments_each n (argument (named s x e) more) = ap (λ l. an_expression (expression_without (from_child n g) e) ∷ l) (arguments_each (suc n) more)
  arguments_each n (argument (pair s e f) more) =
      ap (λ l. an_expression (expression_without (from_child n g) e) ∷ an_expression (expression_without (from_child (suc n) g) f) ∷ l) (arguments_each (suc (suc n)) more)

  -- without elements, of which each has one part
  arguments_but : (gone : ℕ → Bool) (n : ℕ) (list : Arguments Nowhere) → Every HasOnePart (argument_list list) → arguments_parts (arguments_of (but gone (arguments_without g n list))) ≡ but gone (each_child n (arguments_parts list))
  arguments_but gone n no_arguments one = refl
  arguments_but gone n (argument (plain e) more) one = go (gone 0) (arguments_but (λ k. gone (suc k)) (suc n) more one.1)
    where
      go : (b : Bool) → arguments_parts (arguments_of (but (λ k. gone (suc k)) (arguments_without g (suc n) more))) ≡ but (λ k. gone (suc k)) (each_child (suc n) (arguments_parts more))
          → arguments_parts (arguments_of (if b then but (λ k. gone (suc k)) (arguments_without g (suc n) more) else plain (expression_without (from_child n g) e) ∷ but (λ k. gone (suc k)) (arguments_without g (suc n) more)))
          ≡ (if b then but (λ k. gone (suc k)) (each_child (suc n) (arguments_parts more)) else an_expression (expression_without (from_child n g) e) ∷ but (λ k. gone (suc k)) (each_child (suc n) (arguments_parts more)))
      go true rest = rest
      go false rest = ap (λ l. an_expression (expression_without (from_child n g) e) ∷ l) rest
  arguments_but gone n (argument (named s x e) more) one = go (gone 0) (arguments_but (λ k. gone (suc k)) (suc n) more one.1)
    where
      go : (b : Bool) → arguments_parts (arguments_of (but (λ k. gone (suc k)) (arguments_without g (suc n) more))) ≡ but (λ k. gone (suc k)) (each_child (suc n) (arguments_parts more))
          → arguments_parts (arguments_of (if b then but (λ k. gone (suc k)) (arguments_without g (suc n) more) else named s x (expression_without (from_child n g) e) ∷ but (λ k. gone (suc k)) (arguments_without g (suc n) more)))
          ≡ (if b then but (λ k. gone (suc k)) (each_child (suc n) (arguments_parts more)) else an_expression (expression_without (from_child n g) e) ∷ but (λ k. gone (suc k)) (each_child (suc n) (arguments_parts more)))
      go true rest = rest
      go false rest = ap (λ l. an_expression (expression_without (from_child n g) e) ∷ l) rest
  arguments_but gone n (argument (pair s e f) more) one = let two = one.0 in absurd cc

  operands_each : (n : ℕ) (os : Operands Nowhere) → operands_parts (operands_without g n os) ≡ each_child n (operands_parts os)
  operands_each n no_operands = refl
  operands_each n (operand o e more) = ap (λ l. an_expression (expression_without (from_child n g) e) ∷ l) (operands_each (suc n) more)

  tail_each : (n : ℕ) (t : Tail Nowhere) → tail_parts (tail_without g n t) ≡ each_child n (tail_parts t)
  tail_each n (method s x (listing r trailing list)) = arguments_each n list
  tail_each n (index s e) = refl

  tails_each : (n : ℕ) (ts : Tails Nowhere) → tails_parts (tails_without g n ts) ≡ each_child n (tails_parts ts)
  tails_each n no_tails = refl
  tails_each n (tail t more) = ap₂ (λ l m. l ++ m) (tail_each n t) (tails_each (n + length (tail_parts t)) more) ∙ sym (each_append n (tail_parts t) (tails_parts more))

  branches_each : (n : ℕ) (bs : Branches Nowhere) → branches_parts (branches_without g n bs) ≡ each_child n (branches_parts bs)
  branches_each n no_branches = refl
  branches_each n (branch e b more) =
      ap (λ l. an_expression (expression_without (from_child n g) e) ∷ a_block (block_without (from_child (suc n) g) b) ∷ l) (branches_each (suc (suc n)) more)

  otherwise_each : (n : ℕ) (o : Otherwise Nowhere) → otherwise_parts (otherwise_without g n o) ≡ each_child n (otherwise_parts o)
  otherwise_each n nothing_else = refl
  otherwise_each n (otherwise b) = refl

  statements_each : (n : ℕ) (list : Statements Nowhere) → statements_parts (statements_without g n list) ≡ each_child n (statements_parts list)
  statements_each n no_statements = refl
  statements_each n (statement s more) = ap (λ l. a_statement (statement_without (from_child n g) s) ∷ l) (statements_each (suc n) more)

  -- either nothing goes from the node itself, or it is a list whose elements have one part each
  abbrev pub Fits : Node → Type 0
  Fits x = ((k : ℕ) → g [] k ≡ false) ⊎ ((l : Listing Nowhere) × (list_any x ≡ Some l) × Every HasOnePart (elements l))

  abbrev pub ChildrenLeft : Node → Type 0
  ChildrenLeft x = child_nodes (any_without g x) ≡ but (g []) (each_child 0 (child_nodes x))

  list_left : (l : Listing Nowhere) → ((k : ℕ) → g [] k ≡ false) ⊎ Every HasOnePart (elements l) → listing_parts (listing_without g l) ≡ but (g []) (each_child 0 (listing_parts l))
  list_left (listing s trailing list) (inl none) =
      ap (λ xs. arguments_parts (arguments_of xs)) (but_none (g []) none (arguments_without g 0 list)) ∙ arguments_each 0 list ∙ sym (but_none (g []) none (each_child 0 (arguments_parts list)))
  list_left (listing s trailing list) (inr one) = arguments_but (g []) 0 list one

  pub by_list : (x : Node) (l : Listing Nowhere) → list_any x ≡ Some l → Fits x → ((k : ℕ) → g [] k ≡ false) ⊎ Every HasOnePart (elements l)
  by_list x l is (inl none) = inl none
  by_list x l is (inr w) = inr (subst (λ m. Every HasOnePart (elements m)) (some-injective _ _ (sym w.1 ∙ is)) w.2)

  no_list : (x : Node) → list_any x ≡ None → Fits x → (ys : List Node) → ys ≡ each_child 0 (child_nodes x) → ys ≡ but (g []) (each_child 0 (child_nodes x))
  no_list x is (inl none) ys same = same ∙ sym (but_none (g []) none (each_child 0 (child_nodes x)))
  no_list x is (inr w) ys same = let none : None ≡ Some w.0 = sym is ∙ w.1 in absurd cc

  pub children_left : (x : Node) → Fits x → ChildrenLeft x
  children_left (an_expression (paren s e)) fits = no_list (an_expression (paren s e)) refl fits _ refl
  children_left (an_expression (array l)) fits = list_left l (by_list (an_expression (array l)) l refl fits)
  children_left (an_expression (dictionary l)) fits = list_left l (by_list (an_expression (dictionary l)) l refl fits)
  children_left (an_expression (call s x l)) fits = list_left l (by_list (an_expression (call s x l)) l refl fits)
  children_left (an_expression (unary s o e)) fits = no_list (an_expression (unary s o e)) refl fits _ refl
  children_left (an_expression (row s e os)) fits = no_list (an_expression (row s e os)) refl fits _ (ap (λ l. an_expression (expression_without (from_child 0 g) e) ∷ l) (operands_each 1 os))
  children_left (an_expression (postfix s e ts)) fits = no_list (an_expression (postfix s e ts)) refl fits _ (ap (λ l. an_expression (expression_without (from_child 0 g) e) ∷ l) (tails_each 1 ts))
  children_left (an_expression (conditional s c y n)) fits = no_list (an_expression (conditional s c y n)) refl fits _ refl
  children_left (an_expression _) fits = refl
  children_left (a_statement (evaluate e)) fits = no_list (a_statement (evaluate e)) refl fits _ refl
  children_left (a_statement (assign s x a e)) fits = no_list (a_statement (assign s x a e)) refl fits _ refl
  children_left (a_statement (selection s bs o)) fits =
      no_list (a_statement (selection s bs o)) refl fits _
      (ap₂ (λ l m. l ++ m) (branches_each 0 bs) (otherwise_each (length (branches_parts bs)) o ∙ ap (λ k. each_child k (otherwise_parts o)) (omega arith)) ∙ sym (each_append 0 (branches_parts bs) (otherwise_parts o)))
  children_left (a_statement (iteration s xs e b)) fits = no_list (a_statement (iteration s xs e b)) refl fits _ refl
  children_left (a_statement _) fits = refl
  children_left (a_block (block s list)) fits = no_list (a_block (block s list)) refl fits _ (statements_each 0 list)

  -- where none of its own children goes
  pub nth_left : (x y : Node) (n : ℕ) → ((k : ℕ) → g [] k ≡ false) → nth (child_nodes x) n ≡ Some y → nth (child_nodes (any_without g x)) n ≡ Some (any_without (from_child n g) y)
  nth_left x y n none is =
      let same : 0 + n ≡ n = omega arith in
      ap (λ l. nth l n) (children_left x (inl none) ∙ but_none (g []) none (each_child 0 (child_nodes x))) ∙ nth_each 0 n (child_nodes x) y is ∙ ap (λ k. Some (any_without (from_child k g) y)) same

-- ---- along a path

-- no element on the path goes, and where some go stands such a list
abbrev pub Stands : Gone → Node → List ℕ → Type 0
Stands g x [] = Unit {0}
Stands g x (n ∷ path) = (g [] n ≡ false) × Fits g x × ((y : Node) → nth (child_nodes x) n ≡ Some y → Stands (from_child n g) y path)

pub node_left : (path : List ℕ) (g : Gone) (x y : Node) → node_at x path ≡ Some y → Stands g x path → node_at (any_without g x) (path_left g path) ≡ Some (any_without (under_path g path) y)
node_left [] g x y is stands = ap (λ z. Some (any_without g z)) (some-injective _ _ is)
node_left (n ∷ path) g x y is stands =
    let o = and-then-some (λ z. node_at z path) (nth (child_nodes x) n) y is in
    let same : 0 + n ≡ n = omega arith in
    let child : nth (child_nodes (any_without g x)) (left_before (g []) n) ≡ Some (any_without (from_child n g) o.0) =
    ap (λ l. nth l (left_before (g []) n)) (children_left g x stands.1)
    ∙ nth_but (g []) (each_child g 0 (child_nodes x)) n (any_without (from_child n g) o.0) (nth_each g 0 n (child_nodes x) o.0 o.1 ∙ ap (λ k. Some (any_without (from_child k g) o.0)) same) stands.0 in
    ap (option_and_then (λ z. node_at z (path_left (from_child n g) path))) child ∙ node_left path (from_child n g) o.0 y o.2 (stands.2 o.0 o.1)

-- ==== How many of the first elements of a list are left, and that one more goes.

abbrev after_first : (ℕ → Bool) → ℕ → Bool
after_first gone k = gone (suc k)

abbrev by_first : Bool → (ℕ → Bool) → ℕ → ℕ
by_first b gone n = if b then left_before gone n else suc (left_before gone n)

-- one that stays is counted before those behind it
pub later : (gone : ℕ → Bool) (k n : ℕ) → k < n → gone k ≡ false → left_before gone k < left_before gone n
later gone k zero below stays = absurd (omega (arith, below))
later gone zero (suc n) below stays = subst (λ b. 0 < by_first b (after_first gone) n) (sym stays) (omega arith)
later gone (suc k) (suc n) below stays = go (gone 0) (later (after_first gone) k n (omega (arith, below)) stays)
  where
    go : (b : Bool) → left_before (after_first gone) k < left_before (after_first gone) n → by_first b (after_first gone) k < by_first b (after_first gone) n
    go true rest = rest
    go false rest = omega (arith, rest)

-- before the next one
pub behind_gone : (gone : ℕ → Bool) (n : ℕ) → gone n ≡ true → left_before gone (n + 1) ≡ left_before gone n
behind_gone gone zero is = ap (λ b. by_first b (after_first gone) 0) is
behind_gone gone (suc n) is = ap (left_before gone) (add-one (suc n)) ∙ ap (λ m. if gone 0 then m else suc m) (sym (ap (left_before (after_first gone)) (add-one n)) ∙ behind_gone (after_first gone) n is)

pub behind_left : (gone : ℕ → Bool) (n : ℕ) → gone n ≡ false → left_before gone (n + 1) ≡ left_before gone n + 1
behind_left gone zero is = ap (λ b. by_first b (after_first gone) 0) is
behind_left gone (suc n) is = ap (left_before gone) (add-one (suc n)) ∙ go (gone 0) (sym (ap (left_before (after_first gone)) (add-one n)) ∙ behind_left (after_first gone) n is)
  where
    go : (b : Bool) → left_before (after_first gone) (suc n) ≡ left_before (after_first gone) n + 1 → by_first b (after_first gone) (suc n) ≡ by_first b (after_first gone) n + 1
    go true rest = rest
    go false rest = ap suc rest ∙ omega arith

-- numbers of elements that stay are told apart afterwards too
pub told_apart : (gone : ℕ → Bool) (k n : ℕ) → gone k ≡ false → gone n ≡ false → left_before gone k ≡ left_before gone n → k ≡ n
told_apart gone k n k_stays n_stays same = go (nat_lt k n) (nat_lt n k) refl refl
  where
    go : (b c : Bool) → nat_lt k n ≡ b → nat_lt n k ≡ c → k ≡ n
    go true c is also = let below = later gone k n (ltb-true k n is) k_stays in absurd (omega (arith, below, same))
    go false true is also = let above = later gone n k (ltb-true n k also) n_stays in absurd (omega (arith, above, same))
    go false false is also =
        let p : n ≤ k = ltb-false k n is in
        let q : k ≤ n = ltb-false n k also in
        omega (arith, p, q)

pub same_left : (gone : ℕ → Bool) (k n : ℕ) → gone k ≡ false → gone n ≡ false → nat_eq (left_before gone k) (left_before gone n) ≡ nat_eq k n
same_left gone k n k_stays n_stays = go (nat_eq k n) (nat_eq (left_before gone k) (left_before gone n)) refl refl
  where
    go : (b c : Bool) → nat_eq k n ≡ b → nat_eq (left_before gone k) (left_before gone n) ≡ c → c ≡ b
    go true true is also = refl
    go false false is also = refl
    go true false is also = let yes = eq-eqb (left_before gone k) (left_before gone n) (ap (left_before gone) (eqb-true k n is)) in absurd cc
    go false true is also = let yes = eq-eqb k n (told_apart gone k n k_stays n_stays (eqb-true (left_before gone k) (left_before gone n) also)) in absurd cc

-- ---- one more that goes

pub left_same : (gone now : ℕ → Bool) → ((k : ℕ) → now k ≡ gone k) → (n : ℕ) → left_before now n ≡ left_before gone n
left_same gone now same zero = refl
left_same gone now same (suc n) =
    ap (λ b. by_first b (after_first now) n) (same 0) ∙ ap (λ m. if gone 0 then m else suc m) (left_same (after_first gone) (after_first now) (λ k. same (suc k)) n)

-- the same goes, and the element of this number
pub record OneMore (gone now : ℕ → Bool) (k : ℕ) : Type 0 where
  pub stayed : gone k ≡ false
  pub goes : now k ≡ true
  pub others : (n : ℕ) → (k ≡ n → ⊥) → now n ≡ gone n

first_stays : (gone now : ℕ → Bool) (k : ℕ) → OneMore gone now (suc k) → now 0 ≡ gone 0
first_stays gone now k m = m.others 0 (λ same. omega (arith, same))

behind : (gone now : ℕ → Bool) (k : ℕ) → OneMore gone now (suc k) → OneMore (after_first gone) (after_first now) k
behind gone now k m = record { stayed = m.stayed; goes = m.goes; others = λ n other. m.others (suc n) (λ same. other (omega (arith, same))) }

-- before those behind it one fewer is left
pub one_fewer : (gone now : ℕ → Bool) (k n : ℕ) → OneMore gone now k → k < n → left_before gone n ≡ suc (left_before now n)
one_fewer gone now k zero m below = absurd (omega (arith, below))
one_fewer gone now zero (suc n) m below =
    ap (λ b. by_first b (after_first gone) n) m.stayed ∙ ap suc (sym (left_same (after_first gone) (after_first now) (λ k. m.others (suc k) (λ same. omega (arith, same))) n))
    ∙ ap (λ b. suc (by_first b (after_first now) n)) (sym m.goes)
one_fewer gone now (suc k) (suc n) m below =
    go (gone 0) (one_fewer (after_first gone) (after_first now) k n (behind gone now k m) (omega (arith, below))) ∙ ap (λ b. suc (by_first b (after_first now) n)) (sym (first_stays gone now k m))
  where
    go : (b : Bool) → left_before (after_first gone) n ≡ suc (left_before (after_first now) n) → by_first b (after_first gone) n ≡ suc (by_first b (after_first now) n)
    go true rest = rest
    go false rest = ap suc rest

-- before others as many
pub as_many : (gone now : ℕ → Bool) (k n : ℕ) → OneMore gone now k → n ≤ k → left_before gone n ≡ left_before now n
as_many gone now k zero m above = refl
as_many gone now zero (suc n) m above = absurd (omega (arith, above))
as_many gone now (suc k) (suc n) m above =
    ap (λ i. if gone 0 then i else suc i) (as_many (after_first gone) (after_first now) k n (behind gone now k m) (omega (arith, above))) ∙ ap (λ b. by_first b (after_first now) n) (sym (first_stays gone now k m))
