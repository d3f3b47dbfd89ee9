-- The parts of a project stand in order, and so does what is chosen among them.
use Rattle.meson_calls.proofs.Words.{AllByRecursion, cons_option, ⊤, false, if◌then◌else◌, option_map, ◌≡◌, ℕ, zero, suc, ◌+◌, ◌<◌, ◌≤◌, List, [], ◌∷◌, ◌++◌}
use Rattle.meson_calls.proofs.Words.{length, map, Bool, true, Option, Some, None, Ordering, Less, Equal, Greater, nat_cmp, refl, sym, subst, ap, ap₂, ◌∙◌}
use Rattle.meson_calls.proofs.Words.{arith, Span, Any, file, child_nodes, PlacesRise, PartsInOrder, address, all_chosen, call_of, calls, part_call}
use Rattle.meson_calls.proofs.Words.{assigned_values, found, named_or_assigned, or_else, part_set_to, project_ids, value_of_assignment, with_name, Part}
use Rattle.meson_calls.proofs.Words.{parts_of_block, parts_of_file, parts_from, parts, Placed, Project, child, place, placed, one_of, places, role_calls}
use Rattle.meson_calls.proofs.Words.{with_role, CallRef, Role}
use Rattle.std.proofs.Common.{append_assoc, append-nil}
use Rattle.std.specs.Cmp.{nat_cmp_is}
use Rattle.std.specs.Cmp.Lexicographic.{slice_cmp}
use Rattle.std.specs.List.Sorted.{IsStrictlySortedBy}
use Rattle.std.specs.Ordering.{ordering_then}
use Rattle.meson_syntax.specs.Tree.{File}
use Rattle.meson_syntax.specs.Children as syntax
use Rattle.meson_calls.specs.declared.call.Role.TheVariants as role
use Rattle.meson_calls.specs.Parts.{an_expression, a_statement}
use Rattle.meson_calls.proofs.nodes.Induction as nodes
use Rattle.meson_calls.proofs.nodes.Induction.{by_children}
use Rattle.meson_calls.proofs.nodes.PartsBelow as nodes_below
use Rattle.meson_calls.proofs.nodes.PartsBelow.{itself, parts_below, parts_of}

-- ---- addresses

abbrev compare : List ℕ → List ℕ → Ordering
compare = slice_cmp nat_cmp

same_number : (k : ℕ) → nat_cmp k k ≡ Equal
same_number k = sym (nat_cmp_is k k Equal refl)

smaller : (k l : ℕ) → k < l → nat_cmp k l ≡ Less
smaller k l less = sym (nat_cmp_is k l Less less)

earlier : (a : List ℕ) (k l : ℕ) (r s : List ℕ) → k < l → compare (a ++ (k ∷ r)) (a ++ (l ∷ s)) ≡ Less
earlier [] k l r s less = ap (λ o. ordering_then o (compare r s)) (smaller k l less)
earlier (x ∷ a) k l r s less = ap (λ o. ordering_then o (compare (a ++ (k ∷ r)) (a ++ (l ∷ s)))) (same_number x) ∙ earlier a k l r s less

outside : (a : List ℕ) (k : ℕ) (r : List ℕ) → compare a (a ++ (k ∷ r)) ≡ Less
outside [] k r = refl
outside (x ∷ a) k r = ap (λ o. ordering_then o (compare a (a ++ (k ∷ r)))) (same_number x) ∙ outside a k r

-- it lies within the children of a from the n-th on and before the m-th
record Within (a : List ℕ) (n m : ℕ) (x : List ℕ) : Type 0 where
  number : ℕ
  rest : List ℕ
  from : n ≤ number
  to : number < m
  is : x ≡ a ++ (number ∷ rest)

within_less : (a : List ℕ) (n m k o : ℕ) (x y : List ℕ) → m ≤ k → Within a n m x → Within a k o y → compare x y ≡ Less
within_less a n m k o x y apart s t =
    let first = s.to in
    let second = t.from in
    ap₂ compare s.is t.is ∙ earlier a s.number t.number s.rest t.rest (omega (arith, first, second, apart))

-- ---- lists of what has a place

abbrev Each : {X : Type 0} → (List ℕ → Type 0) → List (Placed X) → Type 0
Each P [] = ⊤
Each P (x ∷ xs) = P (address x.place) × Each P xs

abbrev Rise : {X : Type 0} → List (Placed X) → Type 0
Rise [] = ⊤
Rise (x ∷ xs) = Each (λ y. compare (address x.place) y ≡ Less) xs × Rise xs

each_also : {X : Type 0} (P Q : List ℕ → Type 0) (xs : List (Placed X)) → ((y : List ℕ) → P y → Q y) → Each P xs → Each Q xs
each_also P Q [] also all = tt
each_also P Q (x ∷ xs) also all = (also (address x.place) all.0, each_also P Q xs also all.1)

each_append : {X : Type 0} (P : List ℕ → Type 0) (xs ys : List (Placed X)) → Each P xs → Each P ys → Each P (xs ++ ys)
each_append P [] ys first second = second
each_append P (x ∷ xs) ys first second = (first.0, each_append P xs ys first.1 second)

all_above : {X : Type 0} (a : List ℕ) (ys : List (Placed X)) → Each (λ y. compare a y ≡ Less) ys → AllByRecursion (λ y. compare a y ≡ Less) (map address (places ys))
all_above a [] all = tt
all_above a (y ∷ ys) all = (all.0, all_above a ys all.1)

in_order : {X : Type 0} (xs : List (Placed X)) → Rise xs → PlacesRise (places xs)
unfolding IsStrictlySortedBy
in_order [] rise = tt
in_order (x ∷ xs) rise = (all_above (address x.place) xs rise.0, in_order xs rise.1)

-- ---- nodes and their children

record Ordered (a : List ℕ) (n m : ℕ) (xs : List (Placed (Part Span))) : Type 0 where
  inside : Each (Within a n m) xs
  rise : Rise xs

record Whole (c : CallRef) (xs : List (Placed (Part Span))) : Type 0 where
  inside : Each (λ x. (rest : List ℕ) × x ≡ address c ++ rest) xs
  rise : Rise xs

nothing : (a : List ℕ) (n m : ℕ) → Ordered a n m []
nothing a n m = record { inside = tt; rise = tt }

wider : (a : List ℕ) (n m k o : ℕ) → n ≤ k → o ≤ m → (x : List ℕ) → Within a k o x → Within a n m x
wider a n m k o left right x s =
    let from = s.from in
    let to = s.to in
    record { number = s.number; rest = s.rest; from = omega (arith, from, left); to = omega (arith, to, right); is = s.is }

rise_append : (a : List ℕ) (n m k o : ℕ) (xs ys : List (Placed (Part Span))) → m ≤ k → Each (Within a n m) xs → Rise xs → Each (Within a k o) ys → Rise ys → Rise (xs ++ ys)
rise_append a n m k o [] ys apart first rise second later = later
rise_append a n m k o (x ∷ xs) ys apart first rise second later = (
  each_append (λ y. compare (address x.place) y ≡ Less) xs ys rise.0
      (each_also (Within a k o) (λ y. compare (address x.place) y ≡ Less) ys (λ y t. within_less a n m k o (address x.place) y apart first.0 t) second),
  rise_append a n m k o xs ys apart first.1 rise.1 second later,
)

-- children up to the m-th, and behind them others from the k-th on
joined : (a : List ℕ) (n m k o t : ℕ) (xs ys : List (Placed (Part Span))) → m ≤ k → n ≤ k → m ≤ t → o ≤ t → Ordered a n m xs → Ordered a k o ys → Ordered a n t (xs ++ ys)
joined a n m k o t xs ys apart low middle high first second =
    let same : n ≤ n = omega arith in
    record {
      inside = each_append (Within a n t) xs ys
          (each_also (Within a n m) (Within a n t) xs (wider a n t n m same middle) first.inside)
          (each_also (Within a k o) (Within a n t) ys (wider a n t k o low high) second.inside);
      rise = rise_append a n m k o xs ys apart first.inside first.rise second.inside second.rise;
    }

as_child : (c : CallRef) (n : ℕ) (xs : List (Placed (Part Span))) → Whole (child c n) xs → Ordered (address c) n (n + 1) xs
as_child c n xs whole = record {
  inside = each_also (λ x. (rest : List ℕ) × x ≡ address (child c n) ++ rest) (Within (address c) n (n + 1)) xs
      (λ x w. record { number = n; rest = w.0; from = omega arith; to = omega arith; is = w.1 ∙ ap (λ l. c.file ∷ l) (append_assoc c.path.steps (n ∷ []) w.0) })
      whole.inside;
  rise = whole.rise;
}

of_block : (c : CallRef) (m : ℕ) (xs : List (Placed (Part Span))) → Ordered (address c) 0 m xs → Whole c xs
of_block c m xs ordered = record {
  inside = each_also (Within (address c) 0 m) (λ x. (rest : List ℕ) × x ≡ address c ++ rest) xs (λ x s. (s.number ∷ s.rest, s.is)) ordered.inside;
  rise = ordered.rise;
}

-- a part, and what is within it
node : (c : CallRef) (x : Part Span) (m : ℕ) (xs : List (Placed (Part Span))) → Ordered (address c) 0 m xs → Whole c (placed c x ∷ xs)
node c x m xs ordered = record {
  inside = (([], sym (append-nil (address c))), (of_block c m xs ordered).inside);
  rise = (
    each_also (Within (address c) 0 m) (λ y. compare (address c) y ≡ Less) xs (λ y s. ap (compare (address c)) s.is ∙ outside (address c) s.number s.rest) ordered.inside,
    ordered.rise,
  );
}

-- ---- node by node

children_ordered : (c : CallRef) (n : ℕ) (xs : List (Any Span)) → nodes.Each child (λ p x. Whole p (parts_of p x)) c n xs → Ordered (address c) n (n + length xs) (parts_below c n xs)
children_ordered c n [] each = nothing (address c) n (n + 0)
children_ordered c n (x ∷ xs) each =
    let m = n + 1 + length xs in
    joined (address c) n (n + 1) (n + 1) m (n + length (x ∷ xs)) (parts_of (child c n) x) (parts_below c (n + 1) xs) (omega arith) (omega arith) (omega arith) (omega arith)
    (as_child c n (parts_of (child c n) x) each.0) (children_ordered c (n + 1) xs each.1)

node_ordered : (c : CallRef) (x : Any Span) → Whole c (parts_of c x)
node_ordered = by_children child (λ c x. Whole c (parts_of c x)) (λ c x each. subst (Whole c) (sym (nodes_below.parts_are c x)) (of_itself c x (children_ordered c 0 (child_nodes x) each)))
  where
    of_itself : (c : CallRef) (x : Any Span) → Ordered (address c) 0 (0 + length (child_nodes x)) (parts_below c 0 (child_nodes x)) → Whole c (itself c x ++ parts_below c 0 (child_nodes x))
    of_itself c (syntax.an_expression e) ordered = node c (an_expression e) (0 + length (child_nodes (syntax.an_expression e))) (parts_below c 0 (child_nodes (syntax.an_expression e))) ordered
    of_itself c (syntax.a_statement s) ordered = node c (a_statement s) (0 + length (child_nodes (syntax.a_statement s))) (parts_below c 0 (child_nodes (syntax.a_statement s))) ordered
    of_itself c (syntax.a_block b) ordered = of_block c (0 + length (child_nodes (syntax.a_block b))) (parts_below c 0 (child_nodes (syntax.a_block b))) ordered

-- ---- files

file_ordered : (n : ℕ) (f : File Span) → Ordered [] n (n + 1) (parts_of_file n f)
file_ordered n (file s b) =
    let whole = node_ordered (place n []) (syntax.a_block b) in
    record {
      inside = each_also (λ x. (rest : List ℕ) × x ≡ (n ∷ []) ++ rest) (Within [] n (n + 1)) (parts_of_block (place n []) b) (λ x w. record { number = n; rest = w.0; from = omega arith; to = omega arith; is = w.1 }) whole.inside;
      rise = whole.rise;
    }

files_ordered : (n : ℕ) (p : Project Span) → Ordered [] n (n + length p) (parts_from n p)
files_ordered n [] = nothing [] n (n + 0)
files_ordered n (f ∷ files) =
    joined [] n (n + 1) (n + 1) ((n + 1) + length files) (n + length (f ∷ files)) _ _ (omega arith) (omega arith) (omega arith) (omega arith) (file_ordered n f.tree) (files_ordered (n + 1) files)

-- ---- what is chosen

each_chosen : {X Y : Type 0} (P : List ℕ → Type 0) (choose : X → Option Y) (xs : List (Placed X)) → Each P xs → Each P (all_chosen choose xs)
each_chosen P choose [] all = tt
each_chosen {X} {Y} P choose (x ∷ xs) all = go (choose x.it) (each_chosen P choose xs all.1)
  where
    go : (o : Option Y) → Each P (all_chosen choose xs) → Each P (cons_option (option_map (placed x.place) o) (all_chosen choose xs))
    go None rest = rest
    go (Some y) rest = (all.0, rest)

rise_chosen : {X Y : Type 0} (choose : X → Option Y) (xs : List (Placed X)) → Rise xs → Rise (all_chosen choose xs)
rise_chosen choose [] rise = tt
rise_chosen {X} {Y} choose (x ∷ xs) rise = go (choose x.it) (rise_chosen choose xs rise.1)
  where
    go : (o : Option Y) → Rise (all_chosen choose xs) → Rise (cons_option (option_map (placed x.place) o) (all_chosen choose xs))
    go None rest = rest
    go (Some y) rest = (each_chosen (λ z. compare (address x.place) z ≡ Less) choose xs rise.0, rest)

begins : (b : List ℕ) → compare [] (b ++ 0 ∷ []) ≡ Less
begins [] = refl
begins (x ∷ b) = refl

first_child : (a b : List ℕ) → compare a b ≡ Less → compare (a ++ 0 ∷ []) (b ++ 0 ∷ []) ≡ Less
first_child [] [] less = absurd cc
first_child [] (zero ∷ b) less = ap (λ o. ordering_then o (compare [] (b ++ 0 ∷ []))) (same_number 0) ∙ begins b
first_child [] (suc k ∷ b) less = ap (λ o. ordering_then o (compare [] (b ++ 0 ∷ []))) (smaller 0 (suc k) (omega arith))
first_child (x ∷ a) [] less = absurd cc
first_child (x ∷ a) (y ∷ b) less = go (nat_cmp x y) less (λ below. first_child a b below)
  where
    go : (o : Ordering) → ordering_then o (compare a b) ≡ Less → (compare a b ≡ Less → compare (a ++ 0 ∷ []) (b ++ 0 ∷ []) ≡ Less) → ordering_then o (compare (a ++ 0 ∷ []) (b ++ 0 ∷ [])) ≡ Less
    go Less is later = refl
    go Equal is later = later is
    go Greater is later = is

each_value : {X : Type 0} (a : List ℕ) (xs : List (Placed X)) → Each (λ y. compare a y ≡ Less) xs → Each (λ y. compare (a ++ 0 ∷ []) y ≡ Less) (map value_of_assignment xs)
each_value a [] all = tt
each_value a (x ∷ xs) all = (first_child a (address x.place) all.0, each_value a xs all.1)

values_rise : {X : Type 0} (xs : List (Placed X)) → Rise xs → Rise (map value_of_assignment xs)
values_rise [] rise = tt
values_rise (x ∷ xs) rise = (each_value (address x.place) xs rise.0, values_rise xs rise.1)

or_rise : {X : Type 0} (xs ys : List (Placed X)) → Rise xs → Rise ys → Rise (or_else xs ys)
or_rise [] ys first second = second
or_rise (x ∷ xs) ys first second = first

module _ (p : Project Span) where
  parts_are : Rise (parts p)
  parts_are = (files_ordered 0 p).rise

  calls_are : (r : Role) → Rise (role_calls p r)
  calls_are r = rise_chosen (with_role r) (calls p) (rise_chosen part_call (parts p) parts_are)

  assigned_are : (id : List ℕ) → Rise (assigned_values p id)
  assigned_are id = values_rise (all_chosen (part_set_to id) (parts p)) (rise_chosen (part_set_to id) (parts p) parts_are)

  named_are : (r : Role) (id : List ℕ) → Rise (named_or_assigned p r id)
  named_are r id =
      or_rise _ _ (rise_chosen (with_name id) (role_calls p r) (calls_are r)) (rise_chosen (with_role r) (all_chosen call_of (assigned_values p id)) (rise_chosen call_of (assigned_values p id) (assigned_are id)))

  found_are : (r : Role) (id : List ℕ) → Rise (found p r id)
  found_are role.Target id = named_are role.Target id
  found_are role.Dependency id = named_are role.Dependency id
  found_are role.Project id = go (one_of project_ids id)
    where
      go : (b : Bool) → Rise (if b then role_calls p role.Project else [])
      go true = calls_are role.Project
      go false = tt

pub parts_in_order : PartsInOrder
parts_in_order p = record {
  parts_rise = in_order (parts p) (parts_are p);
  targets_rise = in_order (role_calls p role.Target) (calls_are p role.Target);
  found_rise = λ r id. in_order (found p r id) (found_are p r id);
}
