-- Paths that part; the assignments of a project stand apart, and what is put in one of two places leaves what is at the other.
use Rattle.std.proofs.Common.{◌≡◌, ℕ, suc, ◌+◌, ◌≤◌, List, [], ◌∷◌, ◌++◌, append_assoc, append-nil, Option, Some, None, refl, sym, ap, ◌∙◌, subst, arith, inl, inr}
use Rattle.std.specs.Prelude.{⊤, Bool, true, false, ◌⊎◌, filter, if◌then◌else◌, option_map, option_and_then}
use Rattle.std.specs.List.{cons_option, filter_map}
use Rattle.meson_lex.specs.declared.kinds.Span.{Span}
use Rattle.meson_syntax.specs.Children.{Any, an_expression, a_statement, a_block}
use Rattle.meson_syntax.specs.inside.Children.{any_of, child_nodes, node_at}
use Rattle.meson_syntax.specs.Paths.{Sort, Node, Hole, around, children, nth, nth_hole, reach}
use Rattle.meson_syntax.specs.Tree.{File, file, Nowhere, evaluate, assign, selection, iteration, breaks, continues}
use Rattle.meson_syntax.proofs.paths.Every.{Every, every-append}
use Rattle.meson_syntax.proofs.paths.Reaching.{and-then-some, map-some}
use Rattle.meson_edit.proofs.paths.Positions.{every-at-nth}
use Rattle.meson_calls.specs.declared.call.CallRef.{CallRef}
use Rattle.meson_calls.specs.AllParts.{address}
use Rattle.meson_calls.specs.Parts.{Part, parts, parts_from, parts_of_file, parts_of_expression}
use Rattle.meson_calls.specs.Parts as part
use Rattle.meson_calls.specs.Project.{Project, BuildFile, Placed, child, place, placed}
use Rattle.meson_calls.proofs.nodes.EachPart.{expressions_within}
use Rattle.meson_calls.proofs.nodes.Induction.{by_children}
use Rattle.meson_calls.proofs.nodes.Induction as nodes
use Rattle.meson_calls.proofs.nodes.PartsBelow.{any, itself, parts_are, parts_below, parts_of}
use Rattle.meson_calls.proofs.nodes.Sorts.{IsExpression}
use Rattle.meson_steps.proofs.PartsPut.{Differ, children_put, differ_new, differ_old, differ_other, PutsAmong}

-- ---- paths that part

abbrev pub Apart : List ℕ → List ℕ → Type 0
Apart [] b = ⊥
Apart (n ∷ a) [] = ⊥
Apart (n ∷ a) (m ∷ b) = (n ≡ m → ⊥) ⊎ ((n ≡ m) × Apart a b)

pub apart_behind : (front a b : List ℕ) (n m : ℕ) → (n ≡ m → ⊥) → Apart (front ++ n ∷ a) (front ++ m ∷ b)
apart_behind [] a b n m other = inl other
apart_behind (k ∷ front) a b n m other = inr (refl, apart_behind front a b n m other)

pub apart_longer : (a b c : List ℕ) → Apart a b → Apart (a ++ c) b
apart_longer [] b c h = absurd h
apart_longer (n ∷ a) [] c h = absurd h
apart_longer (n ∷ a) (m ∷ b) c (inl other) = inl other
apart_longer (n ∷ a) (m ∷ b) c (inr h) = inr (h.0, apart_longer a b c h.1)

pub apart_turned : (a b : List ℕ) → Apart a b → Apart b a
apart_turned [] b h = absurd h
apart_turned (n ∷ a) [] h = absurd h
apart_turned (n ∷ a) (m ∷ b) (inl other) = inl (λ same. other (sym same))
apart_turned (n ∷ a) (m ∷ b) (inr h) = inr (sym h.0, apart_turned a b h.1)

-- ---- what is put at one of them

abbrev Stays : (sort : Sort) → Node sort Nowhere → List ℕ → Hole Nowhere (Node sort Nowhere) → Type 0
Stays sort x other h = (y : Node h.sort Nowhere) → node_at (any_of Nowhere sort (h.back y)) other ≡ node_at (any_of Nowhere sort x) other

-- the node at the other one stays
pub away : (sort : Sort) (x : Node sort Nowhere) (path other : List ℕ) (h : Hole Nowhere (Node sort Nowhere)) → reach Nowhere sort x path ≡ Some h → Apart path other → Stays sort x other h
away sort x [] other h is apart = absurd apart
away sort x (n ∷ path) [] h is apart = absurd apart
away sort x (n ∷ path) (m ∷ other) h is apart =
    let o = and-then-some (λ g. option_map (around g.before g.behind g.back) (reach Nowhere g.sort g.inside path)) (nth_hole Nowhere sort x n) h is in
    let g = o.0 in
    let i = map-some (around g.before g.behind g.back) (reach Nowhere g.sort g.inside path) h o.2 in
    let puts : PutsAmong Nowhere sort x n g = every-at-nth (PutsAmong Nowhere sort x) 0 n n (children Nowhere sort x) g (omega arith) (children_put Nowhere sort x) o.1 in
    subst (Stays sort x (m ∷ other)) {x = around g.before g.behind g.back i.0} i.2
    (λ y. go g (i.0.back y) puts apart (λ deeper. away g.sort g.inside path other i.0 i.1 deeper y))
  where
    go : (g : Hole Nowhere (Node sort Nowhere)) (z : Node g.sort Nowhere) → PutsAmong Nowhere sort x n g → ((n ≡ m → ⊥) ⊎ ((n ≡ m) × Apart path other))
        → (Apart path other → node_at (any_of Nowhere g.sort z) other ≡ node_at (any_of Nowhere g.sort g.inside) other)
        → node_at (any_of Nowhere sort (g.back z)) (m ∷ other) ≡ node_at (any_of Nowhere sort x) (m ∷ other)
    go g z puts (inl another) deeper = ap (option_and_then (λ y. node_at y other)) (differ_other _ _ (puts z) m another)
    go g z puts (inr h) deeper =
        ap (λ j. option_and_then (λ y. node_at y other) (nth (child_nodes (any_of Nowhere sort (g.back z))) j)) (sym h.0)
        ∙ ap (option_and_then (λ y. node_at y other)) (differ_new _ _ (puts z)) ∙ deeper h.1
        ∙ sym (ap (option_and_then (λ y. node_at y other)) (differ_old _ _ (puts z)))
        ∙ ap (λ j. option_and_then (λ y. node_at y other) (nth (child_nodes (any_of Nowhere sort x)) j)) h.0

-- ---- pairs of a list

abbrev pub Pairs : {X : Type 0} → (X → X → Type 0) → List X → Type 0
Pairs R [] = ⊤
Pairs R (x ∷ xs) = Every (R x) xs × Pairs R xs

every_also : {X : Type 0} (P Q : X → Type 0) (xs : List X) → ((x : X) → P x → Q x) → Every P xs → Every Q xs
every_also P Q [] also all = tt
every_also P Q (x ∷ xs) also all = (also x all.0, every_also P Q xs also all.1)

pairs_append : {X : Type 0} (R : X → X → Type 0) (xs ys : List X) → Every (λ x. Every (R x) ys) xs → Pairs R xs → Pairs R ys → Pairs R (xs ++ ys)
pairs_append R [] ys across first second = second
pairs_append R (x ∷ xs) ys across first second = (every-append (R x) xs ys first.0 across.0, pairs_append R xs ys across.1 first.1 second)

module _ {X Y : Type 0} (f : X → Option Y) where
  every_mapped : (P : X → Type 0) (Q : Y → Type 0) → ((x : X) (y : Y) → f x ≡ Some y → P x → Q y) → (xs : List X) → Every P xs → Every Q (filter_map f xs)
  every_mapped P Q step [] all = tt
  every_mapped P Q step (x ∷ xs) all = go (f x) (λ y is. step x y is all.0) (every_mapped P Q step xs all.1)
    where
      go : (o : Option Y) → ((y : Y) → o ≡ Some y → Q y) → Every Q (filter_map f xs) → Every Q (cons_option o (filter_map f xs))
      go None one rest = rest
      go (Some y) one rest = (one y refl, rest)

  pub pairs_mapped : (R : X → X → Type 0) (S : Y → Y → Type 0) → ((x z : X) (y w : Y) → f x ≡ Some y → f z ≡ Some w → R x z → S y w) → (xs : List X) → Pairs R xs → Pairs S (filter_map f xs)
  pairs_mapped R S step [] pairs = tt
  pairs_mapped R S step (x ∷ xs) pairs = go (f x) (λ y is. every_mapped (R x) (S y) (λ z w also r. step x z y w is also r) xs pairs.0) (pairs_mapped R S step xs pairs.1)
    where
      go : (o : Option Y) → ((y : Y) → o ≡ Some y → Every (S y) (filter_map f xs)) → Pairs S (filter_map f xs) → Pairs S (cons_option o (filter_map f xs))
      go None one rest = rest
      go (Some y) one rest = (one y refl, rest)

module _ {X : Type 0} (test : X → Bool) (R : X → X → Type 0) where
  every_kept : (P : X → Type 0) (xs : List X) → Every P xs → Every P (filter test xs)
  every_kept P [] all = tt
  every_kept P (x ∷ xs) all = go (test x) (every_kept P xs all.1)
    where
      go : (b : Bool) → Every P (filter test xs) → Every P (if b then x ∷ filter test xs else filter test xs)
      go true rest = (all.0, rest)
      go false rest = rest

  pub pairs_kept : (xs : List X) → Pairs R xs → Pairs R (filter test xs)
  pairs_kept [] pairs = tt
  pairs_kept (x ∷ xs) pairs = go (test x) (every_kept (R x) xs pairs.0) (pairs_kept xs pairs.1)
    where
      go : (b : Bool) → Every (R x) (filter test xs) → Pairs R (filter test xs) → Pairs R (if b then x ∷ filter test xs else filter test xs)
      go true one rest = (one, rest)
      go false one rest = rest

-- ---- the assignments of a project

abbrev pub Assigns : {S : Type 0} → Part S → Type 0
Assigns (part.an_expression e) = ⊥
Assigns (part.a_statement (assign s x a e)) = Unit {0}
Assigns (part.a_statement _) = ⊥

abbrev pub BothApart : Placed (Part Span) → Placed (Part Span) → Type 0
BothApart q r = Assigns q.it → Assigns r.it → Apart (address q.place) (address r.place)

-- in what is at a place, and in its children from the n-th on
abbrev Begins : List ℕ → Placed (Part Span) → Type 0
Begins a q = (rest : List ℕ) × (address q.place ≡ a ++ rest)

abbrev From : List ℕ → ℕ → Placed (Part Span) → Type 0
From a n q = (k : ℕ) × (n ≤ k) × ((rest : List ℕ) × (address q.place ≡ a ++ k ∷ rest))

abbrev Ordered : List ℕ → ℕ → List (Placed (Part Span)) → Type 0
Ordered a n qs = Every (From a n) qs × Pairs BothApart qs

abbrev Whole : CallRef → List (Placed (Part Span)) → Type 0
Whole c qs = Every (Begins (address c)) qs × Pairs BothApart qs

across : (a : List ℕ) (n m : ℕ) (q r : Placed (Part Span)) → suc n ≤ m → ((rest : List ℕ) × (address q.place ≡ a ++ n ∷ rest)) → From a m r → BothApart q r
across a n m q r less here there one other =
    subst (λ l. Apart l (address r.place)) (sym here.1)
    (subst (Apart (a ++ n ∷ here.0)) (sym there.2.1) (apart_behind a here.0 there.2.0 n there.0 (λ same. absurd (omega (arith, less, there.1, same)))))

-- what is in the n-th child, and then what is in later ones
joined : (a : List ℕ) (n m : ℕ) (xs ys : List (Placed (Part Span))) → suc n ≤ m → Every (λ q. (rest : List ℕ) × (address q.place ≡ a ++ n ∷ rest)) xs → Pairs BothApart xs → Ordered a m ys → Ordered a n (xs ++ ys)
joined a n m xs ys less here first later = (
  every-append (From a n) xs ys (every_also _ (From a n) xs (λ q h. (n, omega arith, h)) here) (every_also (From a m) (From a n) ys (λ q f. (f.0, omega (arith, less, f.1), f.2)) later.0),
  pairs_append BothApart xs ys (every_also _ (λ q. Every (BothApart q) ys) xs (λ q h. every_also (From a m) (BothApart q) ys (λ r f. across a n m q r less h f) later.0) here) first later.1,
)

children_ordered : (c : CallRef) (n : ℕ) (xs : List (Any Span)) → nodes.Each child (λ d x. Whole d (parts_of d x)) c n xs → Ordered (address c) n (parts_below c n xs)
children_ordered c n [] each = (tt, tt)
children_ordered c n (x ∷ xs) each =
    joined (address c) n (n + 1) (parts_of (child c n) x) (parts_below c (n + 1) xs) (omega arith)
    (every_also (Begins (address (child c n))) _ (parts_of (child c n) x) (λ q b. (b.0, b.1 ∙ ap (λ l. c.file ∷ l) (append_assoc c.path.steps (n ∷ []) b.0))) each.0.0)
    each.0.1 (children_ordered c (n + 1) xs each.1)

no_assignment : (q : Placed (Part Span)) → IsExpression (any q.it) → Assigns q.it → ⊥
no_assignment q is assigns = go q.it is assigns
  where
    go : (x : Part Span) → IsExpression (any x) → Assigns x → ⊥
    go (part.an_expression e) one other = other
    go (part.a_statement s) one other = one

-- what is no assignment stands beside all
no_pairs : (c : CallRef) (x : Part Span) → (Assigns x → ⊥) → (qs : List (Placed (Part Span))) → Every (BothApart (placed c x)) qs
no_pairs c x none [] = tt
no_pairs c x none (q ∷ qs) = ((λ one other. absurd (none one)), no_pairs c x none qs)

-- and an assignment has none in it
alone : (c : CallRef) (x : Part Span) → Every (BothApart (placed c x)) (parts_below c 0 (child_nodes (any x)))
alone c (part.an_expression e) = no_pairs c (part.an_expression e) (λ one. one) (parts_below c 0 (child_nodes (any (part.an_expression e))))
alone c (part.a_statement (assign s x a e)) =
    every-append (BothApart (placed c (part.a_statement (assign s x a e)))) (parts_of_expression (child c 0) e) []
    (every_also (λ q. IsExpression (any q.it)) (BothApart (placed c (part.a_statement (assign s x a e)))) (parts_of_expression (child c 0) e) (λ q is one other. absurd (no_assignment q is other)) (expressions_within (child c 0) e)) tt
alone c (part.a_statement (evaluate e)) = no_pairs c (part.a_statement (evaluate e)) (λ one. one) (parts_below c 0 (child_nodes (any (part.a_statement (evaluate e)))))
alone c (part.a_statement (selection s bs o)) = no_pairs c (part.a_statement (selection s bs o)) (λ one. one) (parts_below c 0 (child_nodes (any (part.a_statement (selection s bs o)))))
alone c (part.a_statement (iteration s xs e b)) = no_pairs c (part.a_statement (iteration s xs e b)) (λ one. one) (parts_below c 0 (child_nodes (any (part.a_statement (iteration s xs e b)))))
alone c (part.a_statement (breaks s)) = no_pairs c (part.a_statement (breaks s)) (λ one. one) []
alone c (part.a_statement (continues s)) = no_pairs c (part.a_statement (continues s)) (λ one. one) []

within : (c : CallRef) (qs : List (Placed (Part Span))) → Ordered (address c) 0 qs → Whole c qs
within c qs ordered = (every_also (From (address c) 0) (Begins (address c)) qs (λ q f. (f.0 ∷ f.2.0, f.2.1)) ordered.0, ordered.1)

node_whole : (c : CallRef) (x : Any Span) → Whole c (parts_of c x)
node_whole = by_children child (λ c x. Whole c (parts_of c x)) (λ c x each. subst (Whole c) (sym (parts_are c x)) (of_itself c x (within c (parts_below c 0 (child_nodes x)) (children_ordered c 0 (child_nodes x) each))))
  where
    own : (c : CallRef) (x : Part Span) → Whole c (parts_below c 0 (child_nodes (any x))) → Whole c (placed c x ∷ parts_below c 0 (child_nodes (any x)))
    own c x below = ((([], sym (append-nil (address c))), below.0), (alone c x, below.1))

    of_itself : (c : CallRef) (x : Any Span) → Whole c (parts_below c 0 (child_nodes x)) → Whole c (itself c x ++ parts_below c 0 (child_nodes x))
    of_itself c (an_expression e) below = own c (part.an_expression e) below
    of_itself c (a_statement s) below = own c (part.a_statement s) below
    of_itself c (a_block b) below = below

files_apart : (n : ℕ) (p : Project Span) → Ordered [] n (parts_from n p)
files_apart n [] = (tt, tt)
files_apart n (f ∷ files) =
    let w = of_file f.tree in
    joined [] n (n + 1) (parts_of_file n f.tree) (parts_from (n + 1) files) (omega arith) w.0 w.1 (files_apart (n + 1) files)
  where
    of_file : (t : File Span) → Every (λ q. (rest : List ℕ) × (address q.place ≡ n ∷ rest)) (parts_of_file n t) × Pairs BothApart (parts_of_file n t)
    of_file (file s b) = node_whole (place n []) (a_block b)

pub assignments_apart : (p : Project Span) → Pairs BothApart (parts p)
assignments_apart p = (files_apart 0 p).1
