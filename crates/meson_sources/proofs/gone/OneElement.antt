-- An element goes from a list of a tree: what is left is the tree without it.
use Rattle.meson_edit.proofs.sequences.Changed.{changed}
use Rattle.meson_sources.proofs.Words.{[], ap, ap₂, arith, Bool, false, List, refl, Some, subst, suc, sym, true, zero, ℕ, ◌+◌, ◌∙◌, ◌∷◌, ◌≡◌, ◌≤◌, a_block}
use Rattle.meson_sources.proofs.Words.{an_expression, block_of, list_in, ListIn, nth, Argument, argument, argument_list, Arguments, arguments_of, array, call}
use Rattle.meson_sources.proofs.Words.{dictionary, Expression, file, Listing, listing, named, no_arguments, Nowhere, pair, Plain, plain, child_nodes}
use Rattle.meson_sources.proofs.Words.{list-of-arguments, some-injective, map-some, edited, element_removed, elements, Remove, with_elements, Differ, here}
use Rattle.meson_sources.proofs.Words.{there, arguments_without, block_without, but, expression_without, from_child, Gone, listing_without, tree_without}
use Rattle.meson_sources.proofs.gone.Nodes.{node_same, nothing}
use Rattle.meson_sources.proofs.gone.Places.{any_without, each_child}
use Rattle.meson_sources.proofs.gone.Spots.{but_none, but_one}
use Rattle.meson_sources.proofs.trees.Elements.{Node, without}
use Rattle.meson_sources.proofs.trees.Shapes.{Becomes, list_becomes}

-- Only the k-th element of the list that the path names goes.
abbrev pub Alone : List ℕ → ℕ → Gone → Type 0
Alone [] k g = (g [] k ≡ true) × ((n : ℕ) → (k ≡ n → ⊥) → g [] n ≡ false) × ((c : ℕ) → nothing ≡ from_child c g)
Alone (m ∷ path) k g = (nothing [] ≡ g []) × ((c : ℕ) → (m ≡ c → ⊥) → nothing ≡ from_child c g) × Alone path k (from_child m g)

-- ---- a list

module _ (g : Gone) (none : (c : ℕ) → nothing ≡ from_child c g) where
  alike : (n m : ℕ) (list : Arguments Nowhere) → arguments_without nothing n list ≡ arguments_without g m list
  alike n m no_arguments = refl
  alike n m (argument (plain e) more) = ap₂ (λ x xs. plain x ∷ xs) (ap (λ f. expression_without f e) (none m)) (alike (suc n) (suc m) more)
  alike n m (argument (named s y e) more) = ap₂ (λ x xs. named s y x ∷ xs) (ap (λ f. expression_without f e) (none m)) (alike (suc n) (suc m) more)
  alike n m (argument (pair s e d) more) =
      ap₂ (λ a xs. a ∷ xs) (ap₂ (pair s) (ap (λ f. expression_without f e) (none m)) (ap (λ f. expression_without f d) (none (suc m)))) (alike (suc (suc n)) (suc (suc m)) more)

  dropped : (n m k : ℕ) (list : Arguments Nowhere) → arguments_without nothing n (arguments_of (without k (argument_list list))) ≡ without k (arguments_without g m list)
  dropped n m zero no_arguments = refl
  dropped n m (suc k) no_arguments = refl
  dropped n m zero (argument (plain e) more) = ap (arguments_without nothing n) (list-of-arguments more) ∙ alike n (suc m) more
  dropped n m zero (argument (named s x e) more) = ap (arguments_without nothing n) (list-of-arguments more) ∙ alike n (suc m) more
  dropped n m zero (argument (pair s e d) more) = ap (arguments_without nothing n) (list-of-arguments more) ∙ alike n (suc (suc m)) more
  dropped n m (suc k) (argument (plain e) more) = ap₂ (λ x xs. plain x ∷ xs) (ap (λ f. expression_without f e) (none m)) (dropped (suc n) (suc m) k more)
  dropped n m (suc k) (argument (named s y e) more) = ap₂ (λ x xs. named s y x ∷ xs) (ap (λ f. expression_without f e) (none m)) (dropped (suc n) (suc m) k more)
  dropped n m (suc k) (argument (pair s e d) more) =
      ap₂ (λ a xs. a ∷ xs) (ap₂ (pair s) (ap (λ f. expression_without f e) (none m)) (ap (λ f. expression_without f d) (none (suc m)))) (dropped (suc (suc n)) (suc (suc m)) k more)

-- the comma behind the last element is gone with the elements
pub no_comma : (g : Gone) (s : Nowhere) (trailing : Bool) (ws : List (Argument Nowhere)) → listing_without g (with_elements (listing s trailing no_arguments) ws) ≡ with_elements (listing s trailing no_arguments) (but (g []) (arguments_without g 0 (arguments_of ws)))
no_comma g s trailing [] = refl
no_comma g s trailing (w ∷ ws) = refl

module _ (k : ℕ) where
  abbrev lost : Listing Nowhere → Listing Nowhere
  lost l = with_elements l (without k (elements l))

  list_follows : (l : Listing Nowhere) (g : Gone) → Alone [] k g → listing_without nothing (lost l) ≡ listing_without g l
  list_follows (listing s trailing list) g r =
      no_comma nothing s trailing (without k (argument_list list))
      ∙ ap (with_elements (listing s trailing list))
      (but_none (nothing []) (λ n. refl) (arguments_without nothing 0 (arguments_of (without k (argument_list list)))) ∙ dropped g r.2 0 0 k list ∙ sym (but_one k (g []) r.0 r.1 (arguments_without g 0 list)))

  in_list : (e : Expression Nowhere) (l : ListIn Nowhere) → list_in e ≡ Some l → (g : Gone) → Alone [] k g → any_without nothing (an_expression (l.back (lost l.list))) ≡ any_without g (an_expression e)
  in_list (array m) l is =
      subst (λ (u : ListIn Nowhere). (g : Gone) → Alone [] k g → any_without nothing (an_expression (u.back (lost u.list))) ≡ any_without g (an_expression (array m)))
      (some-injective _ _ is) (λ g r. ap (λ l. an_expression (array l)) (list_follows m g r))
  in_list (dictionary m) l is =
      subst (λ (u : ListIn Nowhere). (g : Gone) → Alone [] k g → any_without nothing (an_expression (u.back (lost u.list))) ≡ any_without g (an_expression (dictionary m)))
      (some-injective _ _ is) (λ g r. ap (λ l. an_expression (dictionary l)) (list_follows m g r))
  in_list (call s x m) l is =
      subst (λ (u : ListIn Nowhere). (g : Gone) → Alone [] k g → any_without nothing (an_expression (u.back (lost u.list))) ≡ any_without g (an_expression (call s x m)))
      (some-injective _ _ is) (λ g r. ap (λ l. an_expression (call s x l)) (list_follows m g r))
  in_list _ l is = absurd cc

-- ---- along a path

module _ (g : Gone) where
  each_same : (k : ℕ) (xs : List Node) → ((c : ℕ) → k ≤ c → nothing ≡ from_child c g) → each_child nothing k xs ≡ each_child g k xs
  each_same k [] all = refl
  each_same k (x ∷ xs) all = ap₂ (λ y l. y ∷ l) (ap (λ u. any_without u x) (all k (omega arith))) (each_same (suc k) xs (λ c low. all c (omega (arith, low))))

  differ_left : (y next : Node) (n k m : ℕ) (xs ys : List Node) → m ≡ k + n → Differ y next n xs ys → any_without nothing next ≡ any_without (from_child m g) y → ((c : ℕ) → (m ≡ c → ⊥) → nothing ≡ from_child c g)
      → each_child nothing k ys ≡ each_child g k xs
  differ_left y next n k m xs ys is (here {xs = more}) one others =
      let same : m ≡ k = omega (arith, is) in
      ap₂ (λ z l. z ∷ l) (subst (λ i. any_without nothing next ≡ any_without (from_child i g) y) same one) (each_same (suc k) more (λ c low. others c (λ equal. omega (arith, same, low, equal))))
  differ_left y next n k m xs ys is (there {x = x} {n = i} {xs = us} {ys = vs} d) one others =
      ap₂ (λ z l. z ∷ l) (ap (λ u. any_without u x) (others k (λ equal. omega (arith, is, equal)))) (differ_left y next i (suc k) m us vs (omega (arith, is)) d one others)

along : (k : ℕ) (old new : Node) → ((g : Gone) → Alone [] k g → any_without nothing new ≡ any_without g old) → (path : List ℕ) (x now : Node) → Becomes old new path x now
    → (g : Gone) → Alone path k g → any_without nothing now ≡ any_without g x
along k old new follow [] x now b g r = ap (any_without nothing) b.1 ∙ follow g r ∙ sym (ap (any_without g) b.0)
along k old new follow (n ∷ path) x now b g r =
    node_same g nothing x now r.0 b.2.skeletons
    (differ_left g b.0 b.1 n 0 n (child_nodes x) (child_nodes now) (omega arith) b.2.parts (along k old new follow path b.0 b.1 b.3 (from_child n g) r.2) r.1)

by_blocks : (g : Gone) (t now : Plain) → any_without nothing (a_block (block_of now)) ≡ any_without g (a_block (block_of t)) → tree_without nothing now ≡ tree_without g t
by_blocks g (file s b) (file r d) is = let same : block_without nothing d ≡ block_without g b = cc in ap (file s) same

pub element_goes : (t now : Plain) (path : List ℕ) (k : ℕ) → edited (Remove path k) t ≡ Some now → (g : Gone) → Alone path k g → tree_without nothing now ≡ tree_without g t
element_goes t now path k is g alone =
    let c = changed (Remove path k) path t now is in
    let q = c.place in
    let m = map-some (element_removed k (elements q.list)) (nth (elements q.list) k) c.list c.is_list in
    let is_now : q.back (lost k q.list) ≡ now = ap (λ l. q.back (with_elements q.list l)) m.2 ∙ c.is_now in
    let b = list_becomes t path q c.is_place (lost k q.list) in
    let follow = subst (λ l. (g : Gone) → Alone [] k g → any_without nothing (an_expression (b.inner.back (lost k l))) ≡ any_without g (an_expression b.node)) b.same (in_list k b.node b.inner b.is_inner) in
    ap (tree_without nothing) (sym is_now)
    ∙ by_blocks g t (q.back (lost k q.list)) (along k (an_expression b.node) (an_expression (b.inner.back (lost k q.list))) follow path (a_block (block_of t)) (a_block (block_of (q.back (lost k q.list)))) b.becomes g alone)
