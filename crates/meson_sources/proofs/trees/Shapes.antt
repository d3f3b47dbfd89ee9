-- A node put where a path leads: on each step the node keeps its shape and its other children.
use Rattle.meson_sources.proofs.trees.Skeletons as skeletons
use Rattle.meson_syntax.specs.declared.operator.Operator.{Operator}
use Rattle.meson_sources.proofs.Words.{option_and_then, option_map, [], ap, arith, List, refl, Some, subst, suc, sym, zero, ℕ, ◌++◌, ◌∙◌, ◌∷◌, ◌≡◌, Word}
use Rattle.meson_sources.proofs.Words.{a_block, an_expression, Any, around, block_of, children, Hole, list_at, list_in, list_of_node, list_within, ListAt}
use Rattle.meson_sources.proofs.Words.{ListIn, Node, nth_hole, of_block, of_expression, of_statement, reach, Sort, Argument, Block, Expression, file, Listing}
use Rattle.meson_sources.proofs.Words.{Name, Nowhere, Plain, Assignment, any_of, child_nodes, node_at, some-injective, every-nth, and-then-some, map-some}
use Rattle.meson_sources.proofs.Words.{every-at-nth, children_put, Differ, differ_new, differ_old, here, PutsAmong, there}
use Rattle.meson_sources.proofs.trees.Skeletons.{Skeleton, SkeletonStays, skeleton, skeletons_stay}

-- ---- shapes

-- what matters of a node without its children
pub data Shape : Type 0 where
  an_array : List (Argument Nowhere) → Shape
  a_call : List ℕ → List (Argument Nowhere) → Shape
  a_row : List Operator → Shape
  -- a variable or a string
  a_leaf : Shape
  an_assignment : List ℕ → Assignment → Shape
  a_loop : List (Name Nowhere) → Shape
  another : Shape

abbrev pub shape_of : Skeleton → Shape
shape_of (skeletons.a_list skeletons.array_kind comma bs) = an_array bs
shape_of (skeletons.a_list (skeletons.call_kind f) comma bs) = a_call f bs
shape_of (skeletons.a_row os) = a_row os
shape_of (skeletons.an_identifier x) = a_leaf
shape_of (skeletons.a_string q x) = a_leaf
shape_of (skeletons.an_assignment x a) = an_assignment x a
shape_of (skeletons.a_loop xs) = a_loop xs
shape_of _ = another

abbrev pub shape : Any Nowhere → Shape
shape x = shape_of (skeleton x)

-- ---- along a path

-- one step: the child of this number becomes another one
pub record Step (x now y next : Any Nowhere) (n : ℕ) : Type 0 where
  pub parts : Differ y next n (child_nodes x) (child_nodes now)
  pub skeletons : skeleton now ≡ skeleton x
  pub shapes : shape now ≡ shape x

-- the node `new` where the path leads from x to `old`
abbrev pub Becomes : Any Nowhere → Any Nowhere → List ℕ → Any Nowhere → Any Nowhere → Type 0
Becomes old new [] x now = (x ≡ old) × (now ≡ new)
Becomes old new (n ∷ path) x now = (y : Any Nowhere) × (next : Any Nowhere) × Step x now y next n × Becomes old new path y next

child_step : (sort : Sort) (x : Node sort Nowhere) (n : ℕ) (h : Hole Nowhere (Node sort Nowhere)) → nth_hole Nowhere sort x n ≡ Some h → (y : Node h.sort Nowhere)
    → Step (any_of Nowhere sort x) (any_of Nowhere sort (h.back y)) (any_of Nowhere h.sort h.inside) (any_of Nowhere h.sort y) n
child_step sort x n h is y =
    let same = every-nth (SkeletonStays sort x) (children Nowhere sort x) n h (skeletons_stay sort x) is y in
    record { parts = every-at-nth (PutsAmong Nowhere sort x) 0 n n (children Nowhere sort x) h (omega arith) (children_put Nowhere sort x) is y; skeletons = same; shapes = ap shape_of same }

abbrev Puts : (sort : Sort) → Node sort Nowhere → List ℕ → Hole Nowhere (Node sort Nowhere) → Type 0
Puts sort x path h = (y : Node h.sort Nowhere) → Becomes (any_of Nowhere h.sort h.inside) (any_of Nowhere h.sort y) path (any_of Nowhere sort x) (any_of Nowhere sort (h.back y))

reach_becomes : (sort : Sort) (x : Node sort Nowhere) (path : List ℕ) (h : Hole Nowhere (Node sort Nowhere)) → reach Nowhere sort x path ≡ Some h → Puts sort x path h
reach_becomes sort x [] h is = subst (Puts sort x []) (some-injective _ _ is) (λ y. (refl, refl))
reach_becomes sort x (n ∷ path) h is =
    let o = and-then-some (λ g. option_map (around g.before g.behind g.back) (reach Nowhere g.sort g.inside path)) (nth_hole Nowhere sort x n) h is in
    let g = o.0 in
    let m = map-some (around g.before g.behind g.back) (reach Nowhere g.sort g.inside path) h o.2 in
    let i = m.0 in
    subst (Puts sort x (n ∷ path)) {x = around g.before g.behind g.back i} m.2 (λ y.
    (any_of Nowhere g.sort g.inside, any_of Nowhere g.sort (i.back y), child_step sort x n g o.1 (i.back y), reach_becomes g.sort g.inside path i m.1 y))

-- ---- lists

-- another list in the place of the one that the path names
pub record ListBecomes (t now : Plain) (path : List ℕ) (list new : Listing Nowhere) : Type 0 where
  pub node : Expression Nowhere
  pub inner : ListIn Nowhere
  pub is_inner : list_in node ≡ Some inner
  pub same : inner.list ≡ list
  pub becomes : Becomes (an_expression node) (an_expression (inner.back new)) path (a_block (block_of t)) (a_block (block_of now))

pub list_becomes : (t : Plain) (path : List ℕ) (q : ListAt Nowhere) → list_at t path ≡ Some q → (m : Listing Nowhere) → ListBecomes t (q.back m) path q.list m
list_becomes (file s b) path q is m =
    let o = and-then-some (λ h. list_of_node Nowhere h.sort h.inside (file s b) h.before h.behind h.back) (reach Nowhere of_block b path) q is in
    let h = o.0 in
    go h.sort h.inside h.before h.behind h.back (reach_becomes of_block b path h o.1) o.2 where
      go : (sort : Sort) (x : Node sort Nowhere) (before behind : List Word) (back : Node sort Nowhere → Block Nowhere)
          → Puts of_block b path (record { sort = sort; inside = x; before = before; behind = behind; back = back })
          → list_of_node Nowhere sort x (file s b) before behind back ≡ Some q → ListBecomes (file s b) (q.back m) path q.list m
      go of_expression x before behind back puts found =
          let o = map-some (list_within (file s b) before behind back) (list_in x) q found in
          let l = o.0 in
          subst (λ (u : ListAt Nowhere). ListBecomes (file s b) (u.back m) path u.list m) o.2 (record { node = x; inner = l; is_inner = o.1; same = refl; becomes = puts (l.back m) })
      go of_statement x before behind back puts found = absurd cc
      go of_block x before behind back puts found = absurd cc

-- ---- a node on the path

pub record OnPath (old new : Any Nowhere) (path rest : List ℕ) (x now y : Any Nowhere) : Type 0 where
  pub next : Any Nowhere
  pub is_next : node_at now path ≡ Some next
  pub further : Becomes old new rest y next
  pub front : Becomes y next path x now

pub on_path : (old new : Any Nowhere) (path rest : List ℕ) (x now y : Any Nowhere) → Becomes old new (path ++ rest) x now → node_at x path ≡ Some y → OnPath old new path rest x now y
on_path old new [] rest x now y b is =
    let same = some-injective x y is in
    record { next = now; is_next = refl; further = subst (λ z. Becomes old new rest z now) same b; front = (same, refl) }
on_path old new (n ∷ path) rest x now y b is =
    let here : node_at b.0 path ≡ Some y = sym (ap (option_and_then (λ z. node_at z path)) (differ_old b.0 b.1 b.2.parts)) ∙ is in
    let r = on_path old new path rest b.0 b.1 y b.3 here in
    record { next = r.next; is_next = ap (option_and_then (λ z. node_at z path)) (differ_new b.0 b.1 b.2.parts) ∙ r.is_next; further = r.further; front = (b.0, b.1, b.2, r.front) }

-- ---- two lists that differ at a number

module _ {A : Type 0} (old new : A) where
  pub differ_none : (n : ℕ) (ys : List A) → Differ old new n [] ys → ⊥
  differ_none n ys d = go n [] ys d refl
    where
      go : (n : ℕ) (xs ys : List A) → Differ old new n xs ys → xs ≡ [] → ⊥
      go n xs ys here none = cc
      go n xs ys (there d) none = cc

  pub differ_here : (x y : A) (xs ys : List A) → Differ old new zero (x ∷ xs) (y ∷ ys) → (x ≡ old) × (y ≡ new) × (xs ≡ ys)
  differ_here x y xs ys here = (refl, refl, refl)

  pub differ_there : (n : ℕ) (x y : A) (xs ys : List A) → Differ old new (suc n) (x ∷ xs) (y ∷ ys) → (x ≡ y) × Differ old new n xs ys
  differ_there n x y xs ys (there d) = (refl, d)

-- ---- what stands where the path leads

module _ (old new : Any Nowhere) where
  pub became_old : (path : List ℕ) (x now : Any Nowhere) → Becomes old new path x now → node_at x path ≡ Some old
  became_old [] x now b = ap Some b.0
  became_old (n ∷ path) x now b = ap (option_and_then (λ z. node_at z path)) (differ_old b.0 b.1 b.2.parts) ∙ became_old path b.0 b.1 b.3

  pub became_new : (path : List ℕ) (x now : Any Nowhere) → Becomes old new path x now → node_at now path ≡ Some new
  became_new [] x now b = ap Some b.1
  became_new (n ∷ path) x now b = ap (option_and_then (λ z. node_at z path)) (differ_new b.0 b.1 b.2.parts) ∙ became_new path b.0 b.1 b.3
