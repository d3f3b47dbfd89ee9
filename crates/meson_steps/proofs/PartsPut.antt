-- The parts of a node with another node in the place of one: all others are as they were.
use Rattle.meson_steps.proofs.Words.{◌≡◌, ℕ, zero, suc, ◌+◌, Bool, List, [], ◌∷◌, ◌++◌, length, Some, refl, ap, subst, ◌∙◌, arith, length-append, append-nil}
use Rattle.meson_steps.proofs.Words.{Word, new_line, Kind, Any, an_expression, a_statement, a_block, argument_parts, arguments_parts, listing_parts, tail_parts}
use Rattle.meson_steps.proofs.Words.{branches_parts, mark, comma_words, operator_words, expression_words, tails_words, tail_words, argument_words}
use Rattle.meson_steps.proofs.Words.{arguments_words, statement_words, branches_words, otherwise_words, block_words, opens, closes, Sort, of_expression}
use Rattle.meson_steps.proofs.Words.{of_statement, of_block, Node, Hole, around, all_around, nth, children, argument_children, arguments_children}
use Rattle.meson_steps.proofs.Words.{listing_children, operands_children, tail_children, tails_children, expression_children, branches_children}
use Rattle.meson_steps.proofs.Words.{otherwise_children, statement_children, statements_children, block_children, Expression}
use Rattle.meson_steps.proofs.Words.{paren, array, dictionary, call, unary, row, postfix, conditional, Operands, no_operands, operand, Tail, method}
use Rattle.meson_steps.proofs.Words.{index, Tails, no_tails, tail, Listing, listing, Argument, plain, named, pair, Arguments, no_arguments, argument, Statement}
use Rattle.meson_steps.proofs.Words.{evaluate, assign, selection, iteration, Branches, no_branches, branch, Otherwise, nothing_else}
use Rattle.meson_steps.proofs.Words.{otherwise, Statements, no_statements, statement, Block, block, Bracket, any_of, operands_parts, tails_parts}
use Rattle.meson_steps.proofs.Words.{expression_parts, otherwise_parts, statement_parts, statements_parts, block_parts, child_nodes}
use Rattle.meson_lex.specs.declared.kinds.Kind.TheVariants as k
use Rattle.meson_syntax.specs.declared.operator.Bracket.TheVariants as bracket
use Rattle.meson_edit.proofs.paths.Positions.{EveryAt, every-at-append, length-around}

-- ---- lists

-- two lists that differ at this number alone, where the one has `old` and the other `new`
pub data Differ {A : Type 0} (old new : A) : ℕ → List A → List A → Type 0 where
  here : {xs : List A} → Differ old new zero (old ∷ xs) (new ∷ xs)
  there : {x : A} {n : ℕ} {xs ys : List A} → Differ old new n xs ys → Differ old new (suc n) (x ∷ xs) (x ∷ ys)

module _ {A : Type 0} (old new : A) where
  behind_front : (front : List A) (n m : ℕ) (xs ys : List A) → m ≡ length front + n → Differ old new n xs ys → Differ old new m (front ++ xs) (front ++ ys)
  behind_front [] n m xs ys is d = subst (λ i. Differ old new i xs ys) (omega (arith, is)) d
  behind_front (f ∷ front) n zero xs ys is d = absurd (omega (arith, is))
  behind_front (f ∷ front) n (suc m) xs ys is d = there (behind_front front n m xs ys (omega (arith, is)) d)

  before_rest : {n : ℕ} {xs ys : List A} (rest : List A) → Differ old new n xs ys → Differ old new n (xs ++ rest) (ys ++ rest)
  before_rest rest here = here
  before_rest rest (there d) = there (before_rest rest d)

  pub differ_old : {n : ℕ} {xs ys : List A} → Differ old new n xs ys → nth xs n ≡ Some old
  differ_old here = refl
  differ_old (there d) = differ_old d

  pub differ_new : {n : ℕ} {xs ys : List A} → Differ old new n xs ys → nth ys n ≡ Some new
  differ_new here = refl
  differ_new (there d) = differ_new d

  pub differ_other : {n : ℕ} {xs ys : List A} → Differ old new n xs ys → (m : ℕ) → (n ≡ m → ⊥) → nth ys m ≡ nth xs m
  differ_other here zero other = absurd (other refl)
  differ_other here (suc m) other = refl
  differ_other (there d) zero other = refl
  differ_other (there d) (suc m) other = differ_other d m (λ same. other (ap suc same))

-- ---- holes

module _ (S : Type 0) where
  -- a hole whose number is that of its part: another node in it leaves the other parts
  abbrev Puts : (T : Type 0) → (T → List (Any S)) → T → ℕ → Hole S T → Type 0
  Puts T parts_of x n h = (y : Node h.sort S) → Differ (any_of S h.sort h.inside) (any_of S h.sort y) n (parts_of x) (parts_of (h.back y))

  -- the holes of a part, among the parts of the whole
  module _ (T U : Type 0) (inner : T → List (Any S)) (outer : U → List (Any S)) (x : T) (before behind : List Word) (make : T → U) (front rest : List (Any S))
      (are : (z : T) → front ++ (inner z ++ rest) ≡ outer (make z)) where
    one_puts : (n m : ℕ) → m ≡ length front + n → (h : Hole S T) → Puts T inner x n h → Puts U outer (make x) m (around before behind make h)
    one_puts n m is h puts = λ y.
        let old = any_of S h.sort h.inside in
        let new = any_of S h.sort y in
        let own = behind_front old new front n m (inner x ++ rest) (inner (h.back y) ++ rest) is (before_rest old new rest (puts y)) in
        subst (λ ps. Differ old new m ps (outer (make (h.back y)))) (are x) (subst (Differ old new m (front ++ (inner x ++ rest))) (are (h.back y)) own)

    part_puts : (n m : ℕ) → m ≡ length front + n → (hs : List (Hole S T)) → EveryAt (Puts T inner x) n hs → EveryAt (Puts U outer (make x)) m (all_around before behind make hs)
    part_puts n m is [] puts = tt
    part_puts n m is (h ∷ hs) puts = (one_puts n m is h puts.0, part_puts (suc n) (suc m) (omega (arith, is)) hs puts.1)

  -- ---- lists of expressions

  argument_count : (a : Argument S) → length (argument_children a) ≡ length (argument_parts a)
  argument_count (plain e) = refl
  argument_count (named s x e) = refl
  argument_count (pair s e f) = refl

  argument_puts : (a : Argument S) → EveryAt (Puts (Argument S) argument_parts a) 0 (argument_children a)
  argument_puts (plain e) = (λ y. here, tt)
  argument_puts (named s x e) = (λ y. here, tt)
  argument_puts (pair s e f) = (λ y. here, (λ y. there here, tt))

  arguments_put : (list : Arguments S) (trailing : Bool) → EveryAt (Puts (Arguments S) arguments_parts list) 0 (arguments_children list trailing)
  arguments_put no_arguments trailing = tt
  arguments_put (argument a more) trailing =
      let behind = comma_words more trailing ++ arguments_words more trailing in
      let before = argument_words a ++ comma_words more trailing in
      let count = length (argument_children a) in
      every-at-append (Puts (Arguments S) arguments_parts (argument a more)) 0 count
      (all_around [] behind (λ x. argument x more) (argument_children a)) (all_around before [] (argument a) (arguments_children more trailing))
      (omega (arith, length-around [] behind (λ x. argument x more) (argument_children a)))
      (part_puts (Argument S) (Arguments S) argument_parts arguments_parts a [] behind (λ x. argument x more) [] (arguments_parts more) (λ z. refl)
      0 0 refl (argument_children a) (argument_puts a))
      (part_puts (Arguments S) (Arguments S) arguments_parts arguments_parts more before [] (argument a) (argument_parts a) [] (λ z. ap (λ ps. argument_parts a ++ ps) (append-nil _))
      0 count (omega (arith, argument_count a)) (arguments_children more trailing) (arguments_put more trailing))

  listing_puts : (l : Listing S) (b : Bracket) → EveryAt (Puts (Listing S) listing_parts l) 0 (listing_children l b)
  listing_puts (listing s trailing list) b =
      part_puts (Arguments S) (Listing S) arguments_parts listing_parts list (mark (opens b)) (mark (closes b)) (listing s trailing) [] [] (λ z. append-nil _)
      0 0 refl (arguments_children list trailing) (arguments_put list trailing)

  operands_put : (os : Operands S) → EveryAt (Puts (Operands S) operands_parts os) 0 (operands_children os)
  operands_put no_operands = tt
  operands_put (operand o e more) = (
    λ y. here,
    part_puts (Operands S) (Operands S) operands_parts operands_parts more (operator_words o ++ expression_words e) [] (operand o e) (an_expression e ∷ []) []
        (λ z. ap (λ ps. an_expression e ∷ ps) (append-nil _))
        0 1 (omega arith) (operands_children more) (operands_put more),
  )

  arguments_count : (list : Arguments S) (trailing : Bool) → length (arguments_children list trailing) ≡ length (arguments_parts list)
  arguments_count no_arguments trailing = refl
  arguments_count (argument a more) trailing =
      let behind = comma_words more trailing ++ arguments_words more trailing in
      let before = argument_words a ++ comma_words more trailing in
      omega (
        arith,
        length-append (all_around [] behind (λ x. argument x more) (argument_children a)) (all_around before [] (argument a) (arguments_children more trailing)),
        length-around [] behind (λ x. argument x more) (argument_children a),
        length-around before [] (argument a) (arguments_children more trailing),
        argument_count a,
        arguments_count more trailing,
        length-append (argument_parts a) (arguments_parts more),
      )

  pub tail_count : (t : Tail S) → length (tail_children t) ≡ length (tail_parts t)
  tail_count (method s x (listing r trailing list)) =
      length-around (mark k.Dot ++ (k.Identifier, x.text) ∷ []) [] (method s x) (listing_children (listing r trailing list) bracket.Round)
      ∙ length-around (mark (opens bracket.Round)) (mark (closes bracket.Round)) (listing r trailing) (arguments_children list trailing) ∙ arguments_count list trailing
  tail_count (index s e) = refl

  tail_puts : (t : Tail S) → EveryAt (Puts (Tail S) tail_parts t) 0 (tail_children t)
  tail_puts (method s x l) =
      part_puts (Listing S) (Tail S) listing_parts tail_parts l (mark k.Dot ++ (k.Identifier, x.text) ∷ []) [] (method s x) [] [] (λ z. append-nil _)
      0 0 refl (listing_children l bracket.Round) (listing_puts l bracket.Round)
  tail_puts (index s e) = (λ y. here, tt)

  tails_put : (ts : Tails S) → EveryAt (Puts (Tails S) tails_parts ts) 0 (tails_children ts)
  tails_put no_tails = tt
  tails_put (tail t more) =
      let count = length (tail_children t) in
      every-at-append (Puts (Tails S) tails_parts (tail t more)) 0 count
      (all_around [] (tails_words more) (λ x. tail x more) (tail_children t)) (all_around (tail_words t) [] (tail t) (tails_children more))
      (omega (arith, length-around [] (tails_words more) (λ x. tail x more) (tail_children t)))
      (part_puts (Tail S) (Tails S) tail_parts tails_parts t [] (tails_words more) (λ x. tail x more) [] (tails_parts more) (λ z. refl)
      0 0 refl (tail_children t) (tail_puts t))
      (part_puts (Tails S) (Tails S) tails_parts tails_parts more (tail_words t) [] (tail t) (tail_parts t) [] (λ z. ap (λ ps. tail_parts t ++ ps) (append-nil _))
      0 count (omega (arith, tail_count t)) (tails_children more) (tails_put more))

  -- ---- expressions

  lists_put : (l : Listing S) (b : Bracket) (before : List Word) (make : Listing S → Expression S) → ((z : Listing S) → listing_parts z ≡ expression_parts (make z))
      → EveryAt (Puts (Expression S) expression_parts (make l)) 0 (all_around before [] make (listing_children l b))
  lists_put l b before make are =
      part_puts (Listing S) (Expression S) listing_parts expression_parts l before [] make [] [] (λ z. append-nil _ ∙ are z) 0 0 refl (listing_children l b) (listing_puts l b)

  expression_puts : (e : Expression S) → EveryAt (Puts (Expression S) expression_parts e) 0 (expression_children e)
  expression_puts (paren s e) = (λ y. here, tt)
  expression_puts (array l) = lists_put l bracket.Square [] array (λ z. refl)
  expression_puts (dictionary l) = lists_put l bracket.Curly [] dictionary (λ z. refl)
  expression_puts (call s x l) = lists_put l bracket.Round ((k.Identifier, x.text) ∷ []) (call s x) (λ z. refl)
  expression_puts (unary s o e) = (λ y. here, tt)
  expression_puts (row s e os) = (
    λ y. here,
    part_puts (Operands S) (Expression S) operands_parts expression_parts os (expression_words e) [] (row s e) (an_expression e ∷ []) [] (λ z. ap (λ ps. an_expression e ∷ ps) (append-nil _))
        0 1 (omega arith) (operands_children os) (operands_put os),
  )
  expression_puts (postfix s e ts) = (
    λ y. here,
    part_puts (Tails S) (Expression S) tails_parts expression_parts ts (expression_words e) [] (postfix s e) (an_expression e ∷ []) [] (λ z. ap (λ ps. an_expression e ∷ ps) (append-nil _))
        0 1 (omega arith) (tails_children ts) (tails_put ts),
  )
  expression_puts (conditional s c y n) = (λ z. here, (λ z. there here, (λ z. there (there here), tt)))
  expression_puts _ = tt

  -- ---- statements

  branches_put : (bs : Branches S) (word : Kind) → EveryAt (Puts (Branches S) branches_parts bs) 0 (branches_children bs word)
  branches_put no_branches word = tt
  branches_put (branch e b more) word = (
    λ y. here,
    (
      λ y. there here,
      part_puts (Branches S) (Branches S) branches_parts branches_parts more (mark word ++ (expression_words e ++ (new_line ∷ block_words b))) [] (branch e b)
          (an_expression e ∷ a_block b ∷ []) [] (λ z. ap (λ ps. an_expression e ∷ a_block b ∷ ps) (append-nil _))
          0 2 (omega arith) (branches_children more k.WordElif) (branches_put more k.WordElif),
    ),
  )

  pub branches_count : (bs : Branches S) (word : Kind) → length (branches_children bs word) ≡ length (branches_parts bs)
  branches_count no_branches word = refl
  branches_count (branch e b more) word =
      ap (λ n. suc (suc n)) (length-around (mark word ++ (expression_words e ++ (new_line ∷ block_words b))) [] (branch e b) (branches_children more k.WordElif) ∙ branches_count more k.WordElif)

  otherwise_puts : (o : Otherwise S) → EveryAt (Puts (Otherwise S) otherwise_parts o) 0 (otherwise_children o)
  otherwise_puts nothing_else = tt
  otherwise_puts (otherwise b) = (λ y. here, tt)

  statement_puts : (s : Statement S) → EveryAt (Puts (Statement S) statement_parts s) 0 (statement_children s)
  statement_puts (evaluate e) = (λ y. here, tt)
  statement_puts (assign s x a e) = (λ y. here, tt)
  statement_puts (selection s bs o) =
      let behind = otherwise_words o ++ mark k.WordEndif in
      let count = length (branches_children bs k.WordIf) in
      every-at-append (Puts (Statement S) statement_parts (selection s bs o)) 0 count
      (all_around [] behind (λ x. selection s x o) (branches_children bs k.WordIf)) (all_around (branches_words bs k.WordIf) (mark k.WordEndif) (selection s bs) (otherwise_children o))
      (omega (arith, length-around [] behind (λ x. selection s x o) (branches_children bs k.WordIf)))
      (part_puts (Branches S) (Statement S) branches_parts statement_parts bs [] behind (λ x. selection s x o) [] (otherwise_parts o) (λ z. refl)
      0 0 refl (branches_children bs k.WordIf) (branches_put bs k.WordIf))
      (part_puts (Otherwise S) (Statement S) otherwise_parts statement_parts o (branches_words bs k.WordIf) (mark k.WordEndif) (selection s bs) (branches_parts bs) []
      (λ z. ap (λ ps. branches_parts bs ++ ps) (append-nil _))
      0 count (omega (arith, branches_count bs k.WordIf)) (otherwise_children o) (otherwise_puts o))
  statement_puts (iteration s xs e b) = (λ y. here, (λ y. there here, tt))
  statement_puts _ = tt

  statements_put : (list : Statements S) → EveryAt (Puts (Statements S) statements_parts list) 0 (statements_children list)
  statements_put no_statements = tt
  statements_put (statement s more) = (
    λ y. here,
    part_puts (Statements S) (Statements S) statements_parts statements_parts more (statement_words s ++ new_line ∷ []) [] (statement s) (a_statement s ∷ []) []
        (λ z. ap (λ ps. a_statement s ∷ ps) (append-nil _))
        0 1 (omega arith) (statements_children more) (statements_put more),
  )

  block_puts : (b : Block S) → EveryAt (Puts (Block S) block_parts b) 0 (block_children b)
  block_puts (block s list) =
      part_puts (Statements S) (Block S) statements_parts block_parts list [] [] (block s) [] [] (λ z. append-nil _)
      0 0 refl (statements_children list) (statements_put list)

  abbrev pub PutsAmong : (sort : Sort) → Node sort S → ℕ → Hole S (Node sort S) → Type 0
  PutsAmong sort x n h = (y : Node h.sort S) → Differ (any_of S h.sort h.inside) (any_of S h.sort y) n (child_nodes (any_of S sort x)) (child_nodes (any_of S sort (h.back y)))

  pub children_put : (sort : Sort) (x : Node sort S) → EveryAt (PutsAmong sort x) 0 (children S sort x)
  children_put of_expression e = expression_puts e
  children_put of_statement s = statement_puts s
  children_put of_block b = block_puts b
