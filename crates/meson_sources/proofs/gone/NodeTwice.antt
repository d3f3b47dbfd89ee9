-- Elements go from the lists of a node, and then others from those of what is left: the node is what it is without all of them.
use Rattle.meson_sources.proofs.Words.{if◌then◌else◌, ◌||◌, [], ap, ap₂, arith, Bool, false, inl, inr, List, refl, Some, subst, suc, sym, true, ℕ, ◌+◌, ◌∙◌}
use Rattle.meson_sources.proofs.Words.{◌∷◌, ◌≡◌, a_statement, an_expression, arguments_parts, listing_parts, nth, Argument, argument, argument_list, Arguments}
use Rattle.meson_sources.proofs.Words.{arguments_of, array, call, dictionary, evaluate, Expression, Listing, listing, named, no_arguments, Nowhere, pair, plain}
use Rattle.meson_sources.proofs.Words.{child_nodes, some-injective, Every, elements, with_elements, arguments_without, but, expression_without, from_child}
use Rattle.meson_sources.proofs.Words.{Gone, listing_without}
use Rattle.meson_sources.proofs.gone.Nodes.{filled_left, kind_left, left_list, node_without}
use Rattle.meson_sources.proofs.gone.OneElement.{no_comma}
use Rattle.meson_sources.proofs.gone.Places.{each_child, Fits, any_without, before_all, left_before}
use Rattle.meson_sources.proofs.gone.Spots.{but_none, kept_by}
use Rattle.meson_sources.proofs.trees.Elements.{HasOnePart, Node, list_any}
use Rattle.meson_sources.proofs.trees.Skeletons.{Skeleton, a_list, fill, fill_list, of_kind, skeleton, whole_list}

-- First the elements of `g` go, and then those of `f`; in all those of `h`.
module _ (f g h : Gone) where
  -- so it is of a child that had the number n, and has the number m then
  abbrev pub ChildThen : ℕ → ℕ → Node → Type 0
  ChildThen m n y = any_without (from_child m f) (any_without (from_child n g) y) ≡ any_without (from_child n h) y

  expression_then : (m n : ℕ) (e : Expression Nowhere) → ChildThen m n (an_expression e) → expression_without (from_child m f) (expression_without (from_child n g) e) ≡ expression_without (from_child n h) e
  expression_then m n e is = cc

  -- ---- lists

  -- the first element goes first, then, or not at all
  module _ (fn gn : ℕ → Bool) (m : ℕ) (x z : Argument Nowhere) (left all : List (Argument Nowhere)) where
    one_then : (b c : Bool) → fn 0 ≡ c → (b ≡ false → (ws : Arguments Nowhere) → arguments_without f m (argument x ws) ≡ z ∷ arguments_without f (suc m) ws)
        → (b ≡ true → but fn (arguments_without f m (arguments_of left)) ≡ all) → (b ≡ false → but (λ k. fn (suc k)) (arguments_without f (suc m) (arguments_of left)) ≡ all)
        → but fn (arguments_without f m (arguments_of (kept_by b x left))) ≡ kept_by (b || c) z all
    one_then true c is one goes stays = goes refl
    one_then false c is one goes stays =
        ap (but fn) (one refl (arguments_of left)) ∙ ap (λ b. kept_by b z (but (λ k. fn (suc k)) (arguments_without f (suc m) (arguments_of left)))) is ∙ ap (kept_by c z) (stays refl)

  abbrev Elements : (ℕ → Bool) → ℕ → ℕ → Arguments Nowhere → Type 0
  Elements gn m n list = (i j k : ℕ) (y : Node) → nth (arguments_parts list) j ≡ Some y → gn j ≡ false → i ≡ m + left_before gn j → k ≡ n + j → ChildThen i k y

  abbrev by_first : Bool → (ℕ → Bool) → ℕ → ℕ
  by_first b gn j = if b then left_before (λ k. gn (suc k)) j else suc (left_before (λ k. gn (suc k)) j)

  abbrev InAll : (ℕ → Bool) → (ℕ → Bool) → (ℕ → Bool) → Type 0
  InAll fn gn hn = (j : ℕ) → hn j ≡ (gn j || fn (left_before gn j))

  -- one element, and those behind it
  module _ (fn gn hn : ℕ → Bool) (m n : ℕ) (a : Argument Nowhere) (more : Arguments Nowhere) (left_then all : List (Argument Nowhere)) (parts : (j : ℕ) → nth (arguments_parts (argument a more)) (suc j) ≡ nth (arguments_parts more) j)
      (same : InAll fn gn hn) (each : Elements gn m n (argument a more))
      (rest : (f2 : ℕ → Bool) (k : ℕ) → InAll f2 (λ i. gn (suc i)) (λ i. hn (suc i)) → Elements (λ i. gn (suc i)) k (suc n) more → but f2 (arguments_without f k (arguments_of left_then)) ≡ all) where
    behind_gone : gn 0 ≡ true → but fn (arguments_without f m (arguments_of left_then)) ≡ all
    behind_gone is =
        rest fn m (λ j. same (suc j) ∙ ap (λ b. gn (suc j) || fn (by_first b gn j)) is)
        (λ i j k y at stays first second. each i (suc j) k y (parts j ∙ at) stays (first ∙ ap (λ b. m + by_first b gn j) (sym is)) (omega (arith, second)))

    behind_left : gn 0 ≡ false → but (λ k. fn (suc k)) (arguments_without f (suc m) (arguments_of left_then)) ≡ all
    behind_left is =
        rest (λ k. fn (suc k)) (suc m) (λ j. same (suc j) ∙ ap (λ b. gn (suc j) || fn (by_first b gn j)) is)
        (λ i j k y at stays first second.
        let later : i ≡ m + suc (left_before (λ k. gn (suc k)) j) = omega (arith, first) in
        each i (suc j) k y (parts j ∙ at) stays (later ∙ ap (λ b. m + by_first b gn j) (sym is)) (omega (arith, second)))

    head_then : (x z : Argument Nowhere) → (gn 0 ≡ false → (ws : Arguments Nowhere) → arguments_without f m (argument x ws) ≡ z ∷ arguments_without f (suc m) ws)
        → but fn (arguments_without f m (arguments_of (kept_by (gn 0) x left_then))) ≡ kept_by (hn 0) z all
    head_then x z first =
        one_then fn gn m x z left_then all (gn 0) (fn 0) refl first behind_gone behind_left ∙ ap (λ b. kept_by b z all) (sym (same 0))

  elements_then : (fn gn hn : ℕ → Bool) (m n : ℕ) (list : Arguments Nowhere) → Every HasOnePart (argument_list list) → InAll fn gn hn → Elements gn m n list
      → but fn (arguments_without f m (arguments_of (but gn (arguments_without g n list)))) ≡ but hn (arguments_without h n list)
  elements_then fn gn hn m n no_arguments one same each = refl
  elements_then fn gn hn m n (argument (plain e) more) one same each =
      head_then fn gn hn m n (plain e) more _ _ (λ j. refl) same each (λ f2 k all every. elements_then f2 (λ i. gn (suc i)) (λ i. hn (suc i)) k (suc n) more one.1 all every) (plain (expression_without (from_child n g) e)) (plain (expression_without (from_child n h) e))
      (λ stays ws. ap (λ d. plain d ∷ arguments_without f (suc m) ws) (expression_then m n e (each m 0 n (an_expression e) refl stays (omega arith) (omega arith))))
  elements_then fn gn hn m n (argument (named s x e) more) one same each =
      head_then fn gn hn m n (named s x e) more _ _ (λ j. refl) same each (λ f2 k all every. elements_then f2 (λ i. gn (suc i)) (λ i. hn (suc i)) k (suc n) more one.1 all every) (named s x (expression_without (from_child n g) e)) (named s x (expression_without (from_child n h) e))
      (λ stays ws. ap (λ d. named s x d ∷ arguments_without f (suc m) ws) (expression_then m n e (each m 0 n (an_expression e) refl stays (omega arith) (omega arith))))
  elements_then fn gn hn m n (argument (pair s e d) more) one same each = let two = one.0 in absurd cc

  list_then : (l : Listing Nowhere) → Every HasOnePart (elements l) → InAll (f []) (g []) (h [])
      → ((m n : ℕ) (y : Node) → nth (listing_parts l) n ≡ Some y → g [] n ≡ false → m ≡ left_before (g []) n → ChildThen m n y) → listing_without f (listing_without g l) ≡ listing_without h l
  list_then (listing s trailing list) one in_all children =
      no_comma f s trailing (but (g []) (arguments_without g 0 list))
      ∙ ap (with_elements (listing s trailing list))
      (elements_then (f []) (g []) (h []) 0 0 list one in_all
      (λ i j k y at stays first second.
      let here : j ≡ k = omega (arith, second) in
      let alone : i ≡ left_before (g []) j = omega (arith, first) in
      children i k y (ap (nth (arguments_parts list)) (sym here) ∙ at) (ap (g []) (sym here) ∙ stays) (alone ∙ ap (left_before (g [])) here)))

  -- ---- nodes from which nothing goes first

  abbrev Children : Node → Type 0
  Children x = (m n : ℕ) (y : Node) → nth (child_nodes x) n ≡ Some y → g [] n ≡ false → m ≡ left_before (g []) n → ChildThen m n y

  module _ (none : (k : ℕ) → g [] k ≡ false) where
    each_then : (n : ℕ) (xs : List Node) → ((j k : ℕ) (y : Node) → nth xs j ≡ Some y → k ≡ n + j → ChildThen k k y) → each_child f n (each_child g n xs) ≡ each_child h n xs
    each_then n [] all = refl
    each_then n (x ∷ xs) all = ap₂ (λ y l. y ∷ l) (all 0 n x refl (omega arith)) (each_then (suc n) xs (λ j k y at is. all (suc j) k y at (omega (arith, is))))

    still : (k : Skeleton) (xs : List Node) → any_without f (fill (left_list (g [])) k xs) ≡ any_without f (fill whole_list k xs)
    still (a_list kind c bs) xs =
        ap an_expression (kind_left f kind (left_list (g []) c (fill_list bs xs))
        ∙ ap (of_kind kind) (no_comma f tt c (but (g []) (fill_list bs xs)) ∙ ap (λ ws. with_elements (listing tt c no_arguments) (but (f []) (arguments_without f 0 (arguments_of ws)))) (but_none (g []) none (fill_list bs xs)))
        ∙ sym (kind_left f kind (whole_list c (fill_list bs xs))))
    still _ xs = refl

    left_then : (x : Node) → Children x → any_without f (any_without g x) ≡ fill (left_list (f [])) (skeleton x) (each_child h 0 (child_nodes x))
    left_then x children =
        ap (any_without f) (node_without g x) ∙ still (skeleton x) (each_child g 0 (child_nodes x)) ∙ filled_left f (skeleton x) (each_child g 0 (child_nodes x))
        ∙ ap (fill (left_list (f [])) (skeleton x))
        (each_then 0 (child_nodes x) (λ j k y at is. let here : j ≡ k = omega (arith, is) in children k k y (ap (nth (child_nodes x)) (sym here) ∙ at) (none k) (sym (before_all (g []) none k))))

    list_first : (x : Node) → InAll (f []) (g []) (h []) → Children x → any_without f (any_without g x) ≡ any_without h x
    list_first x in_all children =
        left_then x children
        ∙ ap (λ gone. fill (left_list gone) (skeleton x) (each_child h 0 (child_nodes x)))
        (λ i n. (ap (f []) (sym (before_all (g []) none n)) ∙ ap (λ b. b || f [] (left_before (g []) n)) (sym (none n)) ∙ sym (in_all n)) i) ∙ sym (node_without h x)

  pub node_then : (x : Node) → Fits g x → ((l : Listing Nowhere) → list_any x ≡ Some l → InAll (f []) (g []) (h [])) → Children x → any_without f (any_without g x) ≡ any_without h x
  node_then (an_expression (array l)) (inl none) same children = list_first none (an_expression (array l)) (same l refl) children
  node_then (an_expression (dictionary l)) (inl none) same children = list_first none (an_expression (dictionary l)) (same l refl) children
  node_then (an_expression (call s x l)) (inl none) same children = list_first none (an_expression (call s x l)) (same l refl) children
  node_then (an_expression (array l)) (inr w) same children = ap (λ m. an_expression (array m)) (list_then l (subst (λ m. Every HasOnePart (elements m)) (some-injective _ _ (sym w.1)) w.2) (same l refl) children)
  node_then (an_expression (dictionary l)) (inr w) same children = ap (λ m. an_expression (dictionary m)) (list_then l (subst (λ m. Every HasOnePart (elements m)) (some-injective _ _ (sym w.1)) w.2) (same l refl) children)
  node_then (an_expression (call s x l)) (inr w) same children = ap (λ m. an_expression (call s x m)) (list_then l (subst (λ m. Every HasOnePart (elements m)) (some-injective _ _ (sym w.1)) w.2) (same l refl) children)
  node_then (a_statement (evaluate e)) (inl none) same children = left_then none (a_statement (evaluate e)) children ∙ sym (node_without h (a_statement (evaluate e)))
  node_then x (inl none) same children = left_then none x children ∙ sym (node_without h x)
  node_then x (inr w) same children = let no_list = w.1 in absurd cc
