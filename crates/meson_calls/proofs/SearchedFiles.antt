-- The parts that are searched in one file are the parts of that file, and a call that is found there is in it.
use Rattle.meson_calls.proofs.Words.{cons_option, eqb_tells, inl, inr, false, option_map, map, if◌then◌else◌, ◌==◌, ◌≡◌, ℕ, zero, suc, ◌+◌, ◌<◌, List, [], ◌∷◌, ◌++◌, Bool, true, Option, Some, None, Ok, then_ok}
use Rattle.meson_calls.proofs.Words.{refl, sym, ap, ap₂, ◌∙◌, subst, arith, append-nil, filter-append, Any, an_expression, a_statement, a_block, file, child_nodes, Every, every-append}
use Rattle.meson_calls.proofs.Words.{Call, all_chosen, call_of, part_call, only_one, any_project, or_else, part_set_to, project_ids, value_of_assignment, with_name, values_among}
use Rattle.meson_calls.proofs.Words.{named_or_set, Part, parts_of_file, parts_from, parts, Project, BuildFile, Placed, placed, child, place, nth_file, one_of, role_calls}
use Rattle.meson_calls.proofs.Words.{role_calls_among, with_role, within, CallRef, Role}
use Rattle.std.specs.Prelude.{◌⊎◌}
use Rattle.std.proofs.lemmas.Bool.{eq-eqb}
use Rattle.meson_syntax.specs.Tree.{File}
use Rattle.meson_calls.specs.declared.call.Role.TheVariants as role
use Rattle.meson_calls.specs.Finding.{call_within}
use Rattle.meson_calls.proofs.Searched.{all_in_file}
use Rattle.meson_calls.proofs.nodes.Induction.{Each, by_children}
use Rattle.meson_calls.proofs.nodes.PartsBelow.{itself, parts_are, parts_below, parts_of}

-- ---- numbers

other_number : (m n : ℕ) → (m ≡ n → ⊥) → (m == n) ≡ false
other_number m n other = go (eqb_tells m n)
  where
    go : (((m == n) ≡ true) × (m ≡ n)) ⊎ (((m == n) ≡ false) × (m ≡ n → ⊥)) → (m == n) ≡ false
    go (inl same) = absurd (other same.1)
    go (inr apart) = apart.0

-- ---- in which file parts are

module _ {S : Type 0} where
  abbrev InFile : ℕ → List (Placed (Part S)) → Type 0
  InFile n qs = Every (λ (q : Placed (Part S)). q.place.file ≡ n) qs

  abbrev Inside : CallRef → Any S → Type 0
  Inside p x = InFile p.file (parts_of p x)

  in_children : (p : CallRef) (n : ℕ) (xs : List (Any S)) → Each child Inside p n xs → InFile p.file (parts_below p n xs)
  in_children p n [] each = tt
  in_children p n (x ∷ xs) each = every-append (λ (q : Placed (Part S)). q.place.file ≡ p.file) (parts_of (child p n) x) (parts_below p (n + 1) xs) each.0 (in_children p (n + 1) xs each.1)

  in_node : (p : CallRef) (x : Any S) → Inside p x
  in_node = by_children child Inside (λ p x each. subst (InFile p.file) (sym (parts_are p x)) (with_own p x (parts_below p 0 (child_nodes x)) (in_children p 0 (child_nodes x) each)))
    where
      with_own : (p : CallRef) (x : Any S) (qs : List (Placed (Part S))) → InFile p.file qs → InFile p.file (itself p x ++ qs)
      with_own p (an_expression e) qs all = (refl, all)
      with_own p (a_statement s) qs all = (refl, all)
      with_own p (a_block b) qs all = all

  of_file : (n : ℕ) (f : File S) → InFile n (parts_of_file n f)
  of_file n (file s b) = in_node (place n []) (a_block b)

  -- ---- those of one file

  pub all_kept : (n : ℕ) (qs : List (Placed (Part S))) → InFile n qs → within (Some n) qs ≡ qs
  all_kept n [] all = refl
  all_kept n (q ∷ qs) all = ap (λ b. if b then q ∷ within (Some n) qs else within (Some n) qs) (eq-eqb q.place.file n all.0) ∙ ap (λ l. q ∷ l) (all_kept n qs all.1)

  none_kept : (n m : ℕ) → (m == n) ≡ false → (qs : List (Placed (Part S))) → InFile m qs → within (Some n) qs ≡ []
  none_kept n m other [] all = refl
  none_kept n m other (q ∷ qs) all = ap (λ b. if b then q ∷ within (Some n) qs else within (Some n) qs) (ap (λ k. k == n) all.0 ∙ other) ∙ none_kept n m other qs all.1

  pub within_both : (n : ℕ) (xs ys : List (Placed (Part S))) → within (Some n) (xs ++ ys) ≡ within (Some n) xs ++ within (Some n) ys
  within_both n xs ys = filter-append (λ (q : Placed (Part S)). q.place.file == n) xs ys

  later_files : (n k : ℕ) (p : Project S) → n < k → within (Some n) (parts_from k p) ≡ []
  later_files n k [] less = refl
  later_files n k (f ∷ files) less =
      within_both n (parts_of_file k f.tree) (parts_from (k + 1) files)
      ∙ ap₂ (λ l m. l ++ m) (none_kept n k (other_number k n (λ same. omega (arith, less, same))) (parts_of_file k f.tree) (of_file k f.tree)) (later_files n (k + 1) files (omega (arith, less)))

  -- the parts of a file, if it is there
  abbrev pub parts_in : ℕ → Option (BuildFile S) → List (Placed (Part S))
  parts_in n None = []
  parts_in n (Some f) = parts_of_file n f.tree

  from_number : (k i n : ℕ) (p : Project S) → n ≡ k + i → within (Some n) (parts_from k p) ≡ parts_in n (nth_file p i)
  from_number k i n [] is = refl
  from_number k zero n (f ∷ files) is =
      let same : k ≡ n = omega (arith, is) in
      within_both n (parts_of_file k f.tree) (parts_from (k + 1) files)
      ∙ ap₂ (λ l m. l ++ m) (all_kept n (parts_of_file k f.tree) (subst (λ m. InFile m (parts_of_file k f.tree)) same (of_file k f.tree))) (later_files n (k + 1) files (omega (arith, is)))
      ∙ append-nil (parts_of_file k f.tree) ∙ ap (λ m. parts_of_file m f.tree) same
  from_number k (suc i) n (f ∷ files) is =
      let less : k < n = omega (arith, is) in
      within_both n (parts_of_file k f.tree) (parts_from (k + 1) files)
      ∙ ap (λ l. l ++ within (Some n) (parts_from (k + 1) files)) (none_kept n k (other_number k n (λ same. omega (arith, less, same))) (parts_of_file k f.tree) (of_file k f.tree))
      ∙ from_number (k + 1) i n files (omega (arith, is))

  pub parts_searched : (n : ℕ) (p : Project S) → within (Some n) (parts p) ≡ parts_in n (nth_file p n)
  parts_searched n p = from_number 0 n n p (omega arith)

-- ---- what is found

abbrev There : {X : Type 0} → ℕ → List (Placed X) → Type 0
There {X} n xs = Every (λ (x : Placed X). x.place.file ≡ n) xs

chosen_there : {X Y : Type 0} (n : ℕ) (f : X → Option Y) (xs : List (Placed X)) → There n xs → There n (all_chosen f xs)
chosen_there n f [] all = tt
chosen_there {X} {Y} n f (x ∷ xs) all = go (f x.it) (chosen_there n f xs all.1)
  where
    go : (o : Option Y) → There n (all_chosen f xs) → There n (cons_option (option_map (placed x.place) o) (all_chosen f xs))
    go None rest = rest
    go (Some y) rest = (all.0, rest)

moved_there : {X : Type 0} (n : ℕ) (xs : List (Placed X)) → There n xs → There n (map value_of_assignment xs)
moved_there n [] all = tt
moved_there n (x ∷ xs) all = (all.0, moved_there n xs all.1)

either_there : {X : Type 0} (n : ℕ) (xs ys : List (Placed X)) → There n xs → There n ys → There n (or_else xs ys)
either_there n [] ys a b = b
either_there n (x ∷ xs) ys a b = a

if_there : {X : Type 0} (n : ℕ) (b : Bool) (xs : List (Placed X)) → There n xs → There n (if b then xs else [])
if_there n true xs all = all
if_there n false xs all = tt

one_there : {X : Type 0} (n : ℕ) (ys : List (Placed X)) (c : Placed X) → There n ys → only_one ys ≡ Ok c → c.place.file ≡ n
one_there n [] c all h = absurd cc
one_there n (y ∷ []) c all h = let same : y ≡ c = cc in ap (λ x. x.place.file) (sym same) ∙ all.0
one_there n (y ∷ z ∷ ys) c all h = absurd cc

module _ {S : Type 0} where
  role_there : (n : ℕ) (r : Role) (qs : List (Placed (Part S))) → There n qs → There n (role_calls_among qs r)
  role_there n r qs all = chosen_there n (with_role r) (all_chosen part_call qs) (chosen_there n part_call qs all)

  named_there : (n : ℕ) (r : Role) (id : List ℕ) (qs : List (Placed (Part S))) → There n qs → There n (named_or_set qs r id)
  named_there n r id qs all =
      either_there n (all_chosen (with_name id) (role_calls_among qs r)) (all_chosen (with_role r) (all_chosen call_of (values_among qs id)))
      (chosen_there n (with_name id) (role_calls_among qs r) (role_there n r qs all))
      (chosen_there n (with_role r) (all_chosen call_of (values_among qs id)) (chosen_there n call_of (values_among qs id)
      (moved_there n (all_chosen (part_set_to id) qs) (chosen_there n (part_set_to id) qs all))))

  after_project : (n : ℕ) (xs ys : List (Placed (Call S))) (c : Placed (Call S)) → There n ys → then_ok (any_project xs) (λ _. only_one ys) ≡ Ok c → c.place.file ≡ n
  after_project n [] ys c all h = absurd cc
  after_project n (x ∷ xs) ys c all h = one_there n ys c all h

  -- the call that is found in one file is in it
  pub found_in_file : (n : ℕ) (p : Project S) (r : Role) (id : List ℕ) (c : Placed (Call S)) → call_within (Some n) p r id ≡ Ok c → c.place.file ≡ n
  found_in_file n p role.Target id c h = one_there n _ c (named_there n role.Target id (within (Some n) (parts p)) (all_in_file n (parts p))) h
  found_in_file n p role.Dependency id c h = one_there n _ c (named_there n role.Dependency id (within (Some n) (parts p)) (all_in_file n (parts p))) h
  found_in_file n p role.Project id c h =
      after_project n (role_calls p role.Project) _ c
      (if_there n (one_of project_ids id) _ (role_there n role.Project (within (Some n) (parts p)) (all_in_file n (parts p)))) h
