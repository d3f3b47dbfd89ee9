-- A node without what goes from the lists in it.
use Rattle.meson_lex.specs.declared.kinds.Kind.TheVariants as k
use Rattle.meson_syntax.specs.declared.operator.Operator.{Operator}
use Rattle.meson_sources.proofs.Words.{[], ap, ap₂, arith, Bool, drop, false, length, List, refl, suc, sym, zero, ℕ, ◌+◌, ◌∙◌, ◌∷◌, ◌≡◌, a_block, a_statement}
use Rattle.meson_sources.proofs.Words.{an_expression, branches_parts, Argument, arguments_of, block, branch, Branches, index, Listing, listing, method, named}
use Rattle.meson_sources.proofs.Words.{no_arguments, no_branches, Nowhere, operand, pair, plain, postfix, row, selection, statement, tail, child_nodes}
use Rattle.meson_sources.proofs.Words.{with_elements, arguments_without, block_without, branches_without, but, expression_without, from_child, Gone}
use Rattle.meson_sources.proofs.Words.{listing_without, operands_without, otherwise_without, statement_without, statements_without, tails_without}
use Rattle.meson_sources.proofs.gone.Places.{any_without, each_child}
use Rattle.meson_sources.proofs.trees.Elements.{Node}
use Rattle.meson_sources.proofs.trees.Skeletons.{a_conditional, a_loop, a_paren, a_unary, an_assignment, an_evaluation, BlankTail, ListKind, Skeleton, a_list}
use Rattle.meson_sources.proofs.trees.Skeletons.{a_method, a_postfix, a_row, a_selection, a_sequence, an_index, array_kind, call_kind, dictionary_kind, fill}
use Rattle.meson_sources.proofs.trees.Skeletons.{fill_branches, fill_else, fill_list, fill_operands, fill_other, fill_statements, fill_tails, filled, of_kind}
use Rattle.meson_sources.proofs.trees.Skeletons.{part_count, skeleton, whole_list}

abbrev pub nothing : Gone
nothing path k = false

-- ==== A node without what goes is its skeleton with the children without it.

abbrev pub left_list : (ℕ → Bool) → Bool → List (Argument Nowhere) → Listing Nowhere
left_list gone c list = with_elements (listing tt c no_arguments) (but gone list)

module _ (g : Gone) where
  each_drop : (k n : ℕ) (xs : List Node) → each_child g (n + k) (drop k xs) ≡ drop k (each_child g n xs)
  each_drop zero n xs = let same : n + 0 ≡ n = omega arith in ap (λ i. each_child g i xs) same
  each_drop (suc k) n [] = refl
  each_drop (suc k) n (x ∷ xs) = let same : n + suc k ≡ suc n + k = omega arith in ap (λ i. each_child g i (drop k xs)) same ∙ each_drop k (suc n) xs

  list_left : (n : ℕ) (bs : List (Argument Nowhere)) (xs : List Node) → arguments_without g n (arguments_of (fill_list bs xs)) ≡ fill_list bs (each_child g n xs)
  list_left n [] xs = refl
  list_left n (plain b ∷ bs) (an_expression e ∷ xs) = ap (λ l. plain (expression_without (from_child n g) e) ∷ l) (list_left (suc n) bs xs)
  list_left n (named s x b ∷ bs) (an_expression e ∷ xs) = ap (λ l. named s x (expression_without (from_child n g) e) ∷ l) (list_left (suc n) bs xs)
  list_left n (pair s b d ∷ bs) (an_expression e ∷ an_expression f ∷ xs) =
      ap (λ l. pair s (expression_without (from_child n g) e) (expression_without (from_child (suc n) g) f) ∷ l) (list_left (suc (suc n)) bs xs)
  list_left n _ _ = refl

  count_left : (n : ℕ) (list : List (Argument Nowhere)) → part_count (arguments_without g n (arguments_of list)) ≡ part_count list
  count_left n [] = refl
  count_left n (plain e ∷ more) = ap suc (count_left (suc n) more)
  count_left n (named s x e ∷ more) = ap suc (count_left (suc n) more)
  count_left n (pair s e f ∷ more) = ap (λ k. suc (suc k)) (count_left (suc (suc n)) more)

  operands_left : (n : ℕ) (os : List Operator) (xs : List Node) → operands_without g n (fill_operands os xs) ≡ fill_operands os (each_child g n xs)
  operands_left n (o ∷ os) (an_expression e ∷ xs) = ap (operand o (expression_without (from_child n g) e)) (operands_left (suc n) os xs)
  operands_left n _ _ = refl

  tails_left : (n : ℕ) (ts : List BlankTail) (xs : List Node) → tails_without g n (fill_tails ts xs) ≡ fill_tails ts (each_child g n xs)
  tails_left n (a_method f c bs ∷ ts) xs =
      let args = fill_list bs xs in
      let k = part_count args in
      let is = list_left n bs xs in
      ap₂ (λ ws us. tail (method tt (record { place = tt; text = f }) (listing tt c (arguments_of ws))) us) is
      (tails_left (n + k) ts (drop k xs) ∙ ap (fill_tails ts) (each_drop k n xs) ∙ ap (λ i. fill_tails ts (drop i (each_child g n xs))) (sym (count_left n args) ∙ ap part_count is))
  tails_left n (an_index ∷ ts) (an_expression e ∷ xs) =
      let one : n + 1 ≡ suc n = omega arith in ap (tail (index tt (expression_without (from_child n g) e))) (ap (λ i. tails_without g i (fill_tails ts xs)) one ∙ tails_left (suc n) ts xs)
  tails_left n _ _ = refl

  branches_left : (n k : ℕ) (xs : List Node) → branches_without g n (fill_branches k xs) ≡ fill_branches k (each_child g n xs)
  branches_left n (suc k) (an_expression e ∷ a_block b ∷ xs) = ap (branch (expression_without (from_child n g) e) (block_without (from_child (suc n) g) b)) (branches_left (suc (suc n)) k xs)
  branches_left n _ _ = refl

  branches_count : (n : ℕ) (bs : Branches Nowhere) → length (branches_parts (branches_without g n bs)) ≡ length (branches_parts bs)
  branches_count n no_branches = refl
  branches_count n (branch e b more) = ap (λ k. suc (suc k)) (branches_count (suc (suc n)) more)

  else_left : (n : ℕ) (xs : List Node) → otherwise_without g n (fill_else xs) ≡ fill_else (each_child g n xs)
  else_left n (a_block b ∷ xs) = refl
  else_left n _ = refl

  statements_left : (n : ℕ) (xs : List Node) → statements_without g n (fill_statements xs) ≡ fill_statements (each_child g n xs)
  statements_left n (a_statement s ∷ xs) = ap (statement (statement_without (from_child n g) s)) (statements_left (suc n) xs)
  statements_left n _ = refl

  pub kind_left : (kind : ListKind) (l : Listing Nowhere) → expression_without g (of_kind kind l) ≡ of_kind kind (listing_without g l)
  kind_left array_kind l = refl
  kind_left dictionary_kind l = refl
  kind_left (call_kind f) l = refl

  other_left : (k : Skeleton) (xs : List Node) → any_without g (fill_other k xs) ≡ fill_other k (each_child g 0 xs)
  other_left (a_row os) (an_expression e ∷ xs) = ap (λ ps. an_expression (row tt (expression_without (from_child 0 g) e) ps)) (operands_left 1 os xs)
  other_left (a_postfix ts) (an_expression e ∷ xs) = ap (λ us. an_expression (postfix tt (expression_without (from_child 0 g) e) us)) (tails_left 1 ts xs)
  other_left (a_selection n) xs =
      let bs = fill_branches n xs in
      let k = length (branches_parts bs) in
      let is = branches_left 0 n xs in
      let zero_k : k ≡ 0 + k = omega arith in
      ap₂ (λ cs p. a_statement (selection tt cs p)) is
      (else_left k (drop k xs) ∙ ap fill_else (ap (λ i. each_child g i (drop k xs)) zero_k ∙ each_drop k 0 xs) ∙ ap (λ i. fill_else (drop i (each_child g 0 xs))) (sym (branches_count 0 bs) ∙ ap (λ cs. length (branches_parts cs)) is))
  other_left a_sequence xs = ap (λ list. a_block (block tt list)) (statements_left 0 xs)
  other_left a_paren (an_expression e ∷ xs) = refl
  other_left (a_unary o) (an_expression e ∷ xs) = refl
  other_left a_conditional (an_expression c ∷ an_expression y ∷ an_expression n ∷ xs) = refl
  other_left an_evaluation (an_expression e ∷ xs) = refl
  other_left (an_assignment x a) (an_expression e ∷ xs) = refl
  other_left (a_loop names) (an_expression e ∷ a_block b ∷ xs) = refl
  other_left _ _ = refl

  pub filled_left : (k : Skeleton) (xs : List Node) → any_without g (fill whole_list k xs) ≡ fill (left_list (g [])) k (each_child g 0 xs)
  filled_left (a_list kind c bs) xs = ap an_expression (kind_left kind (whole_list c (fill_list bs xs)) ∙ ap (λ ws. of_kind kind (left_list (g []) c ws)) (list_left 0 bs xs))
  filled_left k xs = other_left k xs

  pub node_without : (x : Node) → any_without g x ≡ fill (left_list (g [])) (skeleton x) (each_child g 0 (child_nodes x))
  node_without x = ap (any_without g) (sym (filled x)) ∙ filled_left (skeleton x) (child_nodes x)

-- two nodes with one skeleton
pub node_same : (old new : Gone) (x now : Node) → new [] ≡ old [] → skeleton now ≡ skeleton x → each_child new 0 (child_nodes now) ≡ each_child old 0 (child_nodes x) → any_without new now ≡ any_without old x
node_same old new x now own same parts =
    node_without new now ∙ (λ i. fill (left_list (own i)) (same i) (parts i)) ∙ sym (node_without old x)
