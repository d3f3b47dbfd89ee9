-- The parts of a project without its spans are its parts without theirs, and so are the calls that a name names.
use Rattle.meson_steps.proofs.Words.{◌≡◌, ℕ, ◌+◌, true, false, List, [], ◌∷◌, ◌++◌, map, Option, Some, None, refl, sym, ap, ap₂, ◌∙◌, Bool, ◌&&◌, if◌then◌else◌}
use Rattle.meson_steps.proofs.Words.{is_some, option_and_then, option_map, cons_option, filter_map, map-append, File, Any, Nowhere, Expression, string, call}
use Rattle.meson_steps.proofs.Words.{Listing, listing, plain, named, pair, Arguments, no_arguments, argument, file, erase, erase_arguments, erase_expression}
use Rattle.meson_steps.proofs.Words.{erase_listing, erase_statement, child_nodes, Call, Numbered, all_chosen, first_of, first_argument, first_literal, is}
use Rattle.meson_steps.proofs.Words.{kept_number, literal_of, numbered, part_call, value_without_name, named_trees, Part, parts_of_file, parts_from, Placed}
use Rattle.meson_steps.proofs.Words.{child, place, placed, has_role, one_of, target_functions, with_role, CallRef, Each, by_children, itself, parts_are}
use Rattle.meson_steps.proofs.Words.{parts_below, parts_of}
use Rattle.meson_syntax.specs.Children as syntax
use Rattle.meson_syntax.specs.Tree as tree
use Rattle.meson_calls.specs.declared.call.Role.TheVariants as role
use Rattle.meson_calls.specs.Parts.{an_expression, a_statement}
use Rattle.meson_calls.specs.Naming.{with_name}
use Rattle.meson_calls.proofs.nodes.Erased.{children_erased, erase_any}

-- ---- what is chosen

chosen_by : {X Y Z W : Type 0} (f : X → Option Y) (g : Z → Option W) (h : X → Z) (k : Y → W) (x : Placed X) (xs : List (Placed X)) (o : Option Y) → f x.it ≡ o → g (h x.it) ≡ option_map k o
    → all_chosen g (map (λ (q : Placed X). placed q.place (h q.it)) xs) ≡ map (λ (q : Placed Y). placed q.place (k q.it)) (all_chosen f xs)
    → all_chosen g (map (λ (q : Placed X). placed q.place (h q.it)) (x ∷ xs)) ≡ map (λ (q : Placed Y). placed q.place (k q.it)) (all_chosen f (x ∷ xs))
chosen_by f g h k x xs None found on later =
    ap (λ o. cons_option (option_map (placed x.place) o) (all_chosen g (map (λ q. placed q.place (h q.it)) xs))) on ∙ later
    ∙ sym (ap (λ o. map (λ q. placed q.place (k q.it)) (cons_option (option_map (placed x.place) o) (all_chosen f xs))) found)
chosen_by f g h k x xs (Some y) found on later =
    ap (λ o. cons_option (option_map (placed x.place) o) (all_chosen g (map (λ q. placed q.place (h q.it)) xs))) on ∙ ap (λ l. placed x.place (k y) ∷ l) later
    ∙ sym (ap (λ o. map (λ q. placed q.place (k q.it)) (cons_option (option_map (placed x.place) o) (all_chosen f xs))) found)

-- what is chosen of things that are seen otherwise is what is chosen of them, seen otherwise
chosen_alike : {X Y Z W : Type 0} (f : X → Option Y) (g : Z → Option W) (h : X → Z) (k : Y → W) → ((x : X) → g (h x) ≡ option_map k (f x)) → (xs : List (Placed X))
    → all_chosen g (map (λ (q : Placed X). placed q.place (h q.it)) xs) ≡ map (λ (q : Placed Y). placed q.place (k q.it)) (all_chosen f xs)
chosen_alike f g h k alike [] = refl
chosen_alike f g h k alike (x ∷ xs) = chosen_by f g h k x xs (f x.it) refl (alike x.it) (chosen_alike f g h k alike xs)

-- ---- parts

abbrev pub bare_part : {S : Type 0} → Part S → Part Nowhere
bare_part (an_expression e) = an_expression (erase_expression e)
bare_part (a_statement s) = a_statement (erase_statement s)

abbrev pub bare_placed : {S : Type 0} → Placed (Part S) → Placed (Part Nowhere)
bare_placed q = placed q.place (bare_part q.it)

-- parts joined
module _ {S : Type 0} where
  both : (xs ys : List (Placed (Part S))) {us vs : List (Placed (Part Nowhere))} → us ≡ map bare_placed xs → vs ≡ map bare_placed ys → us ++ vs ≡ map bare_placed (xs ++ ys)
  both xs ys one other = ap₂ (λ l m. l ++ m) one other ∙ sym (map-append bare_placed xs ys)

  -- ---- of a node

  abbrev Bare : CallRef → Any S → Type 0
  Bare p x = parts_of p (erase_any x) ≡ map bare_placed (parts_of p x)

  in_itself : (p : CallRef) (x : Any S) → itself p (erase_any x) ≡ map bare_placed (itself p x)
  in_itself p (syntax.an_expression e) = refl
  in_itself p (syntax.a_statement s) = refl
  in_itself p (syntax.a_block b) = refl

  in_children : (p : CallRef) (n : ℕ) (xs : List (Any S)) → Each child Bare p n xs → parts_below p n (map erase_any xs) ≡ map bare_placed (parts_below p n xs)
  in_children p n [] each = refl
  in_children p n (x ∷ xs) each = both (parts_of (child p n) x) (parts_below p (n + 1) xs) each.0 (in_children p (n + 1) xs each.1)

  in_node : (p : CallRef) (x : Any S) → Bare p x
  in_node = by_children child Bare
      (λ p x each.
      parts_are p (erase_any x) ∙ ap (λ ys. itself p (erase_any x) ++ parts_below p 0 ys) (children_erased x)
      ∙ both (itself p x) (parts_below p 0 (child_nodes x)) (in_itself p x) (in_children p 0 (child_nodes x) each) ∙ ap (map bare_placed) (sym (parts_are p x)))

  in_file : (n : ℕ) (f : tree.File S) → parts_of_file n (erase f) ≡ map bare_placed (parts_of_file n f)
  in_file n (file s b) = in_node (place n []) (syntax.a_block b)

  pub parts_erased : (n : ℕ) (files : List File) (trees : List (tree.File S)) → parts_from n (named_trees files (map erase trees)) ≡ map bare_placed (parts_from n (named_trees files trees))
  parts_erased n [] trees = refl
  parts_erased n (f ∷ files) [] = refl
  parts_erased n (f ∷ files) (t ∷ trees) = both (parts_of_file n t) (parts_from (n + 1) (named_trees files trees)) (in_file n t) (parts_erased (n + 1) files trees)

  -- ---- calls

  abbrev pub bare_call : Call S → Call Nowhere
  bare_call c = record { function = c.function; arguments = erase_listing c.arguments }

  pub call_alike : (x : Part S) → part_call (bare_part x) ≡ option_map bare_call (part_call x)
  call_alike (an_expression (call s x l)) = refl
  call_alike (an_expression _) = refl
  call_alike (a_statement s) = refl

  -- the first argument without a name
  first_in : (n : ℕ) (list : Arguments S) → first_of (filter_map (kept_number value_without_name) (numbered n (erase_arguments list))) ≡ option_map (λ (v : Numbered (Expression S)). record { number = v.number; value = erase_expression v.value }) (first_of (filter_map (kept_number value_without_name) (numbered n list)))
  first_in n no_arguments = refl
  first_in n (argument (plain e) more) = refl
  first_in n (argument (named s x e) more) = first_in (n + 1) more
  first_in n (argument (pair s e f) more) = first_in (n + 1) more

  mapped : (o : Option (Numbered (Expression S))) → option_map (λ (v : Numbered (Expression Nowhere)). v.value) (option_map (λ (v : Numbered (Expression S)). record { number = v.number; value = erase_expression v.value }) o) ≡ option_map erase_expression (option_map (λ (v : Numbered (Expression S)). v.value) o)
  mapped None = refl
  mapped (Some v) = refl

  argument_alike : (c : Call S) → first_argument (bare_call c) ≡ option_map erase_expression (first_argument c)
  argument_alike c = by c.function c.arguments
    where
      by : (f : List ℕ) (l : Listing S) → first_argument (bare_call (record { function = f; arguments = l })) ≡ option_map erase_expression (first_argument (record { function = f; arguments = l }))
      by f (listing s trailing list) = ap (option_map (λ v. v.value)) (first_in 0 list) ∙ mapped (first_of (filter_map (kept_number value_without_name) (numbered 0 list)))

  is_there : (o : Option (Expression S)) → is_some (option_map erase_expression o) ≡ is_some o
  is_there None = refl
  is_there (Some e) = refl

  role_by : (c : Call S) (b : Bool) → (if b then Some (bare_call c) else None) ≡ option_map bare_call (if b then Some c else None)
  role_by c true = refl
  role_by c false = refl

  pub role_alike : (c : Call S) → with_role role.Target (bare_call c) ≡ option_map bare_call (with_role role.Target c)
  role_alike c =
      ap (λ t. if one_of target_functions c.function && t then Some (bare_call c) else None) (ap is_some (argument_alike c) ∙ is_there (first_argument c)) ∙ role_by c (has_role role.Target c)

  literal_alike : (e : Expression S) → literal_of (erase_expression e) ≡ literal_of e
  literal_alike (string s q x) = refl
  literal_alike _ = refl

  literals : (o : Option (Expression S)) → option_and_then literal_of (option_map erase_expression o) ≡ option_and_then literal_of o
  literals None = refl
  literals (Some e) = literal_alike e

  pub first_alike : (c : Call S) → first_literal (bare_call c) ≡ first_literal c
  first_alike c = ap (option_and_then literal_of) (argument_alike c) ∙ literals (first_argument c)

  pub name_alike : (id : List ℕ) (c : Call S) → with_name id (bare_call c) ≡ option_map bare_call (with_name id c)
  name_alike id c =
      ap (λ t. if is id t then Some (bare_call c) else None) (first_alike c) ∙ role_by c (is id (first_literal c))

-- the calls of targets of a name
abbrev pub named_among : {S : Type 0} → List ℕ → List (Placed (Part S)) → List (Placed (Call S))
named_among id xs = all_chosen (with_name id) (all_chosen (with_role role.Target) (all_chosen part_call xs))

pub named_alike : {S : Type 0} (id : List ℕ) (xs : List (Placed (Part S))) → named_among id (map bare_placed xs) ≡ map (λ (q : Placed (Call S)). placed q.place (bare_call q.it)) (named_among id xs)
named_alike id xs =
    ap (λ l. all_chosen (with_name id) (all_chosen (with_role role.Target) l)) (chosen_alike part_call part_call bare_part bare_call call_alike xs)
    ∙ ap (all_chosen (with_name id)) (chosen_alike (with_role role.Target) (with_role role.Target) bare_call bare_call role_alike (all_chosen part_call xs))
    ∙ chosen_alike (with_name id) (with_name id) bare_call bare_call (name_alike id) (all_chosen (with_role role.Target) (all_chosen part_call xs))
