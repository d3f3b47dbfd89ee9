-- A node with an expression in the place of some others.
use Rattle.meson_lex.specs.declared.kinds.Kind.TheVariants as k
use Rattle.meson_syntax.specs.declared.operator.Operator.{Operator}
use Rattle.meson_sources.specs.Exchanged.{arguments_with, block_with, branches_with, Chosen, each_with, expression_with, listing_with, operands_with}
use Rattle.meson_sources.specs.Exchanged.{otherwise_with, statement_with, statements_with, tail_with, tails_with, tree_with, under}
use Rattle.meson_sources.proofs.Words.{if◌then◌else◌, [], ap, ap₂, arith, Bool, drop, false, length, List, refl, suc, sym, zero, ℕ, ◌+◌, ◌∙◌, ◌∷◌, ◌≡◌, a_block}
use Rattle.meson_sources.proofs.Words.{a_statement, an_expression, arguments_parts, branches_parts, Argument, argument, Arguments, arguments_of, array, assign}
use Rattle.meson_sources.proofs.Words.{Block, block, branch, Branches, call, conditional, dictionary, evaluate, Expression, file, index, iteration, Listing, listing}
use Rattle.meson_sources.proofs.Words.{method, named, no_arguments, no_branches, no_operands, no_statements, no_tails, nothing_else, Nowhere, operand, Operands}
use Rattle.meson_sources.proofs.Words.{Otherwise, otherwise, pair, paren, Plain, plain, postfix, row, selection, Statement, statement, Statements, Tail, tail, Tails}
use Rattle.meson_sources.proofs.Words.{tail_parts, unary, child_nodes}
use Rattle.meson_sources.proofs.trees.Elements.{Node}
use Rattle.meson_sources.proofs.trees.Skeletons.{a_conditional, a_loop, a_paren, a_unary, an_assignment, an_evaluation, BlankTail, ListKind, Skeleton, a_list}
use Rattle.meson_sources.proofs.trees.Skeletons.{a_method, a_postfix, a_row, a_selection, a_sequence, an_index, array_kind, call_kind, dictionary_kind, fill}
use Rattle.meson_sources.proofs.trees.Skeletons.{fill_branches, fill_else, fill_list, fill_operands, fill_other, fill_statements, fill_tails, filled, of_kind}
use Rattle.meson_sources.proofs.trees.Skeletons.{part_count, skeleton, whole_list}

abbrev pub any_with : Expression Nowhere → Chosen → Node → Node
any_with w g (an_expression e) = an_expression (expression_with w g e)
any_with w g (a_statement s) = a_statement (statement_with w g s)
any_with w g (a_block b) = a_block (block_with w g b)

-- w, if an expression is chosen
abbrev pub put : Expression Nowhere → Bool → Node → Node
put w chosen (an_expression e) = an_expression (if chosen then w else e)
put w chosen (a_statement s) = a_statement s
put w chosen (a_block b) = a_block b

-- ==== A node is its skeleton with its children, each with what is exchanged in it.

module _ (w : Expression Nowhere) (g : Chosen) where
  abbrev pub each_child : ℕ → List Node → List Node
  each_child n [] = []
  each_child n (x ∷ xs) = any_with w (under n g) x ∷ each_child (suc n) xs

  each_drop : (k n : ℕ) (xs : List Node) → each_child (n + k) (drop k xs) ≡ drop k (each_child n xs)
  each_drop zero n xs = let same : n + 0 ≡ n = omega arith in ap (λ i. each_child i xs) same
  each_drop (suc k) n [] = refl
  each_drop (suc k) n (x ∷ xs) = let same : n + suc k ≡ suc n + k = omega arith in ap (λ i. each_child i (drop k xs)) same ∙ each_drop k (suc n) xs

  list_put : (n : ℕ) (bs : List (Argument Nowhere)) (xs : List Node) → arguments_with w g n (arguments_of (fill_list bs xs)) ≡ arguments_of (fill_list bs (each_child n xs))
  list_put n [] xs = refl
  list_put n (plain b ∷ bs) (an_expression e ∷ xs) = ap (argument (plain (expression_with w (under n g) e))) (list_put (suc n) bs xs)
  list_put n (named s x b ∷ bs) (an_expression e ∷ xs) = ap (argument (named s x (expression_with w (under n g) e))) (list_put (suc n) bs xs)
  list_put n (pair s b d ∷ bs) (an_expression e ∷ an_expression f ∷ xs) =
      ap (argument (pair s (expression_with w (under n g) e) (expression_with w (under (suc n) g) f))) (list_put (suc (suc n)) bs xs)
  list_put n _ _ = refl

  count_put : (n : ℕ) (list : Arguments Nowhere) → length (arguments_parts (arguments_with w g n list)) ≡ length (arguments_parts list)
  count_put n no_arguments = refl
  count_put n (argument (plain e) more) = ap suc (count_put (suc n) more)
  count_put n (argument (named s x e) more) = ap suc (count_put (suc n) more)
  count_put n (argument (pair s e f) more) = ap (λ k. suc (suc k)) (count_put (suc (suc n)) more)

  operands_put : (n : ℕ) (os : List Operator) (xs : List Node) → operands_with w g n (fill_operands os xs) ≡ fill_operands os (each_child n xs)
  operands_put n (o ∷ os) (an_expression e ∷ xs) = ap (operand o (expression_with w (under n g) e)) (operands_put (suc n) os xs)
  operands_put n _ _ = refl

  tails_put : (n : ℕ) (ts : List BlankTail) (xs : List Node) → tails_with w g n (fill_tails ts xs) ≡ fill_tails ts (each_child n xs)
  tails_put n (a_method f c bs ∷ ts) xs =
      let args = arguments_of (fill_list bs xs) in
      let k = length (arguments_parts args) in
      let is = list_put n bs xs in
      ap₂ (λ ws us. tail (method tt (record { place = tt; text = f }) (listing tt c ws)) us) is
      (tails_put (n + k) ts (drop k xs) ∙ ap (fill_tails ts) (each_drop k n xs)
      ∙ ap (λ i. fill_tails ts (drop i (each_child n xs))) (sym (count_put n args) ∙ ap (λ l. length (arguments_parts l)) is))
  tails_put n (an_index ∷ ts) (an_expression e ∷ xs) =
      let one : n + 1 ≡ suc n = omega arith in ap (tail (index tt (expression_with w (under n g) e))) (ap (λ i. tails_with w g i (fill_tails ts xs)) one ∙ tails_put (suc n) ts xs)
  tails_put n _ _ = refl

  branches_put : (n k : ℕ) (xs : List Node) → branches_with w g n (fill_branches k xs) ≡ fill_branches k (each_child n xs)
  branches_put n (suc k) (an_expression e ∷ a_block b ∷ xs) = ap (branch (expression_with w (under n g) e) (block_with w (under (suc n) g) b)) (branches_put (suc (suc n)) k xs)
  branches_put n _ _ = refl

  branches_count : (n : ℕ) (bs : Branches Nowhere) → length (branches_parts (branches_with w g n bs)) ≡ length (branches_parts bs)
  branches_count n no_branches = refl
  branches_count n (branch e b more) = ap (λ k. suc (suc k)) (branches_count (suc (suc n)) more)

  else_put : (n : ℕ) (xs : List Node) → otherwise_with w g n (fill_else xs) ≡ fill_else (each_child n xs)
  else_put n (a_block b ∷ xs) = refl
  else_put n _ = refl

  statements_put : (n : ℕ) (xs : List Node) → statements_with w g n (fill_statements xs) ≡ fill_statements (each_child n xs)
  statements_put n (a_statement s ∷ xs) = ap (statement (statement_with w (under n g) s)) (statements_put (suc n) xs)
  statements_put n _ = refl

  kind_put : (kind : ListKind) (l : Listing Nowhere) → expression_with w g (of_kind kind l) ≡ (if g [] then w else of_kind kind (listing_with w g l))
  kind_put array_kind l = refl
  kind_put dictionary_kind l = refl
  kind_put (call_kind f) l = refl

  other_put : (k : Skeleton) (xs : List Node) → any_with w g (fill_other k xs) ≡ put w (g []) (fill_other k (each_child 0 xs))
  other_put (a_row os) (an_expression e ∷ xs) = ap (λ ps. an_expression (if g [] then w else row tt (expression_with w (under 0 g) e) ps)) (operands_put 1 os xs)
  other_put (a_postfix ts) (an_expression e ∷ xs) = ap (λ us. an_expression (if g [] then w else postfix tt (expression_with w (under 0 g) e) us)) (tails_put 1 ts xs)
  other_put (a_selection n) xs =
      let bs = fill_branches n xs in
      let k = length (branches_parts bs) in
      let is = branches_put 0 n xs in
      let zero_k : k ≡ 0 + k = omega arith in
      ap₂ (λ cs p. a_statement (selection tt cs p)) is
      (else_put k (drop k xs) ∙ ap fill_else (ap (λ i. each_child i (drop k xs)) zero_k ∙ each_drop k 0 xs)
      ∙ ap (λ i. fill_else (drop i (each_child 0 xs))) (sym (branches_count 0 bs) ∙ ap (λ cs. length (branches_parts cs)) is))
  other_put a_sequence xs = ap (λ list. a_block (block tt list)) (statements_put 0 xs)
  other_put a_paren (an_expression e ∷ xs) = refl
  other_put (a_unary o) (an_expression e ∷ xs) = refl
  other_put a_conditional (an_expression c ∷ an_expression y ∷ an_expression n ∷ xs) = refl
  other_put an_evaluation (an_expression e ∷ xs) = refl
  other_put (an_assignment x a) (an_expression e ∷ xs) = refl
  other_put (a_loop names) (an_expression e ∷ a_block b ∷ xs) = refl
  other_put _ _ = refl

  filled_put : (k : Skeleton) (xs : List Node) → any_with w g (fill whole_list k xs) ≡ put w (g []) (fill whole_list k (each_child 0 xs))
  filled_put (a_list kind c bs) xs =
      ap an_expression (kind_put kind (whole_list c (fill_list bs xs)) ∙ ap (λ l. if g [] then w else of_kind kind (listing tt c l)) (list_put 0 bs xs))
  filled_put k xs = other_put k xs

  pub node_with : (x : Node) → any_with w g x ≡ put w (g []) (fill whole_list (skeleton x) (each_child 0 (child_nodes x)))
  node_with x = ap (any_with w g) (sym (filled x)) ∙ filled_put (skeleton x) (child_nodes x)

-- two nodes with one skeleton
pub node_same : (w : Expression Nowhere) (old new : Chosen) (x now : Node) → new [] ≡ old [] → skeleton now ≡ skeleton x → each_child w new 0 (child_nodes now) ≡ each_child w old 0 (child_nodes x)
    → any_with w new now ≡ any_with w old x
node_same w old new x now own same parts =
    node_with w new now ∙ (λ i. put w (own i) (fill whole_list (same i) (parts i))) ∙ sym (node_with w old x)

-- ==== Where nothing is chosen all is as it was.

abbrev pub nowhere : Chosen
nowhere path = false

module _ (w : Expression Nowhere) where
  abbrev mutual
    same_expression : (e : Expression Nowhere) → expression_with w nowhere e ≡ e
    same_expression (paren s e) = ap (paren s) (same_expression e)
    same_expression (array l) = ap array (same_listing l)
    same_expression (dictionary l) = ap dictionary (same_listing l)
    same_expression (call s x l) = ap (call s x) (same_listing l)
    same_expression (unary s o e) = ap (unary s o) (same_expression e)
    same_expression (row s e os) = ap₂ (row s) (same_expression e) (same_operands 1 os)
    same_expression (postfix s e ts) = ap₂ (postfix s) (same_expression e) (same_tails 1 ts)
    same_expression (conditional s c y n) = λ i. conditional s ((same_expression c) i) ((same_expression y) i) ((same_expression n) i)
    same_expression e = refl

    same_listing : (l : Listing Nowhere) → listing_with w nowhere l ≡ l
    same_listing (listing s trailing list) = ap (listing s trailing) (same_arguments 0 list)

    same_arguments : (n : ℕ) (list : Arguments Nowhere) → arguments_with w nowhere n list ≡ list
    same_arguments n no_arguments = refl
    same_arguments n (argument (plain e) more) = ap₂ (λ v xs. argument (plain v) xs) (same_expression e) (same_arguments (suc n) more)
    same_arguments n (argument (named s x e) more) = ap₂ (λ v xs. argument (named s x v) xs) (same_expression e) (same_arguments (suc n) more)
    same_arguments n (argument (pair s e f) more) = λ i. argument (pair s ((same_expression e) i) ((same_expression f) i)) ((same_arguments (suc (suc n)) more) i)

    same_operands : (n : ℕ) (os : Operands Nowhere) → operands_with w nowhere n os ≡ os
    same_operands n no_operands = refl
    same_operands n (operand o e more) = ap₂ (operand o) (same_expression e) (same_operands (suc n) more)

    same_tail : (n : ℕ) (t : Tail Nowhere) → tail_with w nowhere n t ≡ t
    same_tail n (method s x (listing r trailing list)) = ap (λ l. method s x (listing r trailing l)) (same_arguments n list)
    same_tail n (index s e) = ap (index s) (same_expression e)

    same_tails : (n : ℕ) (ts : Tails Nowhere) → tails_with w nowhere n ts ≡ ts
    same_tails n no_tails = refl
    same_tails n (tail t more) = ap₂ tail (same_tail n t) (same_tails (n + length (tail_parts t)) more)

  abbrev mutual
    same_statement : (s : Statement Nowhere) → statement_with w nowhere s ≡ s
    same_statement (evaluate e) = ap evaluate (same_expression e)
    same_statement (assign s x a e) = ap (assign s x a) (same_expression e)
    same_statement (selection s bs o) = ap₂ (selection s) (same_branches 0 bs) (same_otherwise (length (branches_parts bs)) o)
    same_statement (iteration s xs e b) = ap₂ (iteration s xs) (same_expression e) (same_block b)
    same_statement s = refl

    same_branches : (n : ℕ) (bs : Branches Nowhere) → branches_with w nowhere n bs ≡ bs
    same_branches n no_branches = refl
    same_branches n (branch e b more) = λ i. branch ((same_expression e) i) ((same_block b) i) ((same_branches (suc (suc n)) more) i)

    same_otherwise : (n : ℕ) (o : Otherwise Nowhere) → otherwise_with w nowhere n o ≡ o
    same_otherwise n nothing_else = refl
    same_otherwise n (otherwise b) = ap otherwise (same_block b)

    same_statements : (n : ℕ) (list : Statements Nowhere) → statements_with w nowhere n list ≡ list
    same_statements n no_statements = refl
    same_statements n (statement s more) = ap₂ statement (same_statement s) (same_statements (suc n) more)

    same_block : (b : Block Nowhere) → block_with w nowhere b ≡ b
    same_block (block s list) = ap (block s) (same_statements 0 list)

  same_tree : (t : Plain) → tree_with w nowhere t ≡ t
  same_tree (file s b) = ap (file s) (same_block b)

  pub same_trees : (ts : List Plain) → each_with w (λ n. nowhere) ts ≡ ts
  same_trees [] = refl
  same_trees (t ∷ ts) = ap₂ (λ u us. u ∷ us) (same_tree t) (same_trees ts)
