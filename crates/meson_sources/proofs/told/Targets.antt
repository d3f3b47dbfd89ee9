-- What tells of targets in a project: the calls that make them, each with its function and its first argument if that is a literal, and the variables that are set to such a call.
use Rattle.meson_syntax.specs.declared.operator.Assignment.TheVariants as assignment
use Rattle.meson_syntax.specs.Tree as tree
use Rattle.meson_calls.specs.declared.call.Role.TheVariants as role
use Rattle.meson_calls.specs.Parts as part
use Rattle.meson_steps.proofs.ToldAlike.{anywhere}
use Rattle.meson_sources.proofs.Words.{cons_option, filter_map, if◌then◌else◌, is_some, option_and_then, option_map, ◌&&◌, [], ap, append_assoc, ap₂, Bool}
use Rattle.meson_sources.proofs.Words.{List, map, None, Option, refl, Some, sym, true, ℕ, ◌++◌, ◌+◌, ◌∙◌, ◌∷◌, ◌≡◌, filter_map-append, a_block, a_statement}
use Rattle.meson_sources.proofs.Words.{an_expression, Any, argument_parts, arguments_parts, listing_parts, block_of, Argument, argument, Arguments, assign}
use Rattle.meson_sources.proofs.Words.{call, erase, erase_arguments, erase_expression, erase_listing, erase_statement, Expression, file, Listing, listing}
use Rattle.meson_sources.proofs.Words.{named, no_arguments, Nowhere, pair, Plain, plain, Statement, string, child_nodes, Call, call_of, first_literal, first_of}
use Rattle.meson_sources.proofs.Words.{kept_number, literal_of, numbered, value_without_name, Part, parts_of_file, child, place, Placed, has_role}
use Rattle.meson_sources.proofs.Words.{is_target_call, one_of, target_functions, CallRef, children_erased, erase_any, by_children, Each, itself, parts_are}
use Rattle.meson_sources.proofs.Words.{parts_below, parts_of}

pub data Naming : Type 0 where
  a_target : List ℕ → Option (List ℕ) → Naming
  a_variable : List ℕ → Naming

abbrev pub tell_call : {S : Type 0} → Option (Call S) → Option Naming
tell_call None = None
tell_call (Some c) = if has_role role.Target c then Some (a_target c.function (first_literal c)) else None

abbrev pub tell_statement : {S : Type 0} → Statement S → Option Naming
tell_statement (assign s x assignment.Set e) = if is_target_call (Some e) then Some (a_variable x.text) else None
tell_statement _ = None

abbrev pub tell_part : {S : Type 0} → Part S → Option Naming
tell_part (part.an_expression e) = tell_call (call_of e)
tell_part (part.a_statement s) = tell_statement s

abbrev pub tell : {S : Type 0} → Placed (Part S) → Option Naming
tell q = tell_part q.it

abbrev pub told : {S : Type 0} → List (Placed (Part S)) → List Naming
told qs = filter_map tell qs

-- ---- the same of trees without spans

-- wherever they stand
abbrev pub in_any : Any Nowhere → List Naming
in_any x = told (parts_of (place 0 []) x)

abbrev pub in_expression : Expression Nowhere → List Naming
in_expression e = in_any (an_expression e)

abbrev pub own : Any Nowhere → Option Naming
own (an_expression e) = tell_call (call_of e)
own (a_statement s) = tell_statement s
own (a_block b) = None

abbrev pub in_all : List (Any Nowhere) → List Naming
in_all [] = []
in_all (x ∷ xs) = in_any x ++ in_all xs

abbrev pub in_listing : Listing Nowhere → List Naming
in_listing l = in_all (listing_parts l)

abbrev pub in_argument : Argument Nowhere → List Naming
in_argument a = in_all (argument_parts a)

abbrev pub in_arguments : Arguments Nowhere → List Naming
in_arguments list = in_all (arguments_parts list)

-- ---- a node tells what it tells itself, and what its children tell

pub all_both : (xs ys : List (Any Nowhere)) → in_all (xs ++ ys) ≡ in_all xs ++ in_all ys
all_both [] ys = refl
all_both (x ∷ xs) ys = ap (λ l. in_any x ++ l) (all_both xs ys) ∙ sym (append_assoc (in_any x) (in_all xs) (in_all ys))

below_tell : (p : CallRef) (n : ℕ) (xs : List (Any Nowhere)) → told (parts_below p n xs) ≡ in_all xs
below_tell p n [] = refl
below_tell p n (x ∷ xs) = filter_map-append tell (parts_of (child p n) x) (parts_below p (n + 1) xs) ∙ ap₂ (λ l m. l ++ m) (anywhere tell_part (child p n) (place 0 []) x) (below_tell p (n + 1) xs)

pub node_tells : (x : Any Nowhere) → in_any x ≡ cons_option (own x) (in_all (child_nodes x))
node_tells (an_expression e) = ap told (parts_are (place 0 []) (an_expression e)) ∙ ap (cons_option (own (an_expression e))) (below_tell (place 0 []) 0 (child_nodes (an_expression e)))
node_tells (a_statement s) = ap told (parts_are (place 0 []) (a_statement s)) ∙ ap (cons_option (own (a_statement s))) (below_tell (place 0 []) 0 (child_nodes (a_statement s)))
node_tells (a_block b) = ap told (parts_are (place 0 []) (a_block b)) ∙ below_tell (place 0 []) 0 (child_nodes (a_block b))

-- ---- the first argument without a name

abbrev pub first_plain : {S : Type 0} → Arguments S → Option (Expression S)
first_plain no_arguments = None
first_plain (argument (plain e) more) = Some e
first_plain (argument (named s x e) more) = first_plain more
first_plain (argument (pair s e f) more) = first_plain more

pub first_is : {S : Type 0} (n : ℕ) (list : Arguments S) → option_map (λ a. a.value) (first_of (filter_map (kept_number value_without_name) (numbered n list))) ≡ first_plain list
first_is n no_arguments = refl
first_is n (argument (plain e) more) = refl
first_is n (argument (named s x e) more) = first_is (n + 1) more
first_is n (argument (pair s e f) more) = first_is (n + 1) more

-- what a call with this first argument tells
abbrev pub call_by : {S : Type 0} → List ℕ → Option (Expression S) → Option Naming
call_by f first = if one_of target_functions f && is_some first then Some (a_target f (option_and_then literal_of first)) else None

pub call_tells : {S : Type 0} (f : List ℕ) (s : S) (trailing : Bool) (list : Arguments S) → tell_call (Some (record { function = f; arguments = listing s trailing list })) ≡ call_by f (first_plain list)
call_tells f s trailing list = ap (call_by f) (first_is 0 list)

-- ---- without spans

abbrev pub in_file : Plain → List Naming
in_file (file s b) = in_any (a_block b)

module _ {S : Type 0} where
  literal_erased : (e : Expression S) → literal_of (erase_expression e) ≡ literal_of e
  literal_erased (string s q x) = refl
  literal_erased _ = refl

  first_erased : (list : Arguments S) → first_plain (erase_arguments list) ≡ option_map erase_expression (first_plain list)
  first_erased no_arguments = refl
  first_erased (argument (plain e) more) = refl
  first_erased (argument (named s x e) more) = first_erased more
  first_erased (argument (pair s e f) more) = first_erased more

  by_erased : (f : List ℕ) (o : Option (Expression S)) → call_by f (option_map erase_expression o) ≡ call_by f o
  by_erased f None = refl
  by_erased f (Some e) = ap (λ l. if one_of target_functions f && true then Some (a_target f l) else None) (literal_erased e)

  pub by_bare : (f : List ℕ) (list : Arguments S) → call_by f (first_plain (erase_arguments list)) ≡ call_by f (first_plain list)
  by_bare f list = ap (call_by f) (first_erased list) ∙ by_erased f (first_plain list)

  call_erased : (f : List ℕ) (l : Listing S) → tell_call (Some (record { function = f; arguments = erase_listing l })) ≡ tell_call (Some (record { function = f; arguments = l }))
  call_erased f (listing s trailing list) = call_tells f tt trailing (erase_arguments list) ∙ by_bare f list ∙ sym (call_tells f s trailing list)

  some_erased : (o : Option (Expression S)) → is_some (option_map erase_expression o) ≡ is_some o
  some_erased None = refl
  some_erased (Some e) = refl

  pub target_erased : (e : Expression S) → is_target_call (Some (erase_expression e)) ≡ is_target_call (Some e)
  target_erased (call s x (listing r trailing list)) =
      ap (λ b. one_of target_functions x.text && b) (ap is_some (first_is 0 (erase_arguments list) ∙ first_erased list) ∙ some_erased (first_plain list) ∙ sym (ap is_some (first_is 0 list)))
  target_erased _ = refl

  pub expression_erased : (e : Expression S) → tell_call (call_of (erase_expression e)) ≡ tell_call (call_of e)
  expression_erased (call s x l) = call_erased x.text l
  expression_erased _ = refl

  pub statement_erased : (s : Statement S) → tell_statement (erase_statement s) ≡ tell_statement s
  statement_erased (assign s x assignment.Set e) = ap (λ b. if b then Some (a_variable x.text) else None) (target_erased e)
  statement_erased _ = refl

  -- ---- all parts, wherever they stand

  abbrev Bare : CallRef → Any S → Type 0
  Bare p x = told (parts_of p x) ≡ in_any (erase_any x)

  in_children : (p : CallRef) (n : ℕ) (xs : List (Any S)) → Each child Bare p n xs → told (parts_below p n xs) ≡ in_all (map erase_any xs)
  in_children p n [] each = refl
  in_children p n (x ∷ xs) each = filter_map-append tell (parts_of (child p n) x) (parts_below p (n + 1) xs) ∙ ap₂ (λ l m. l ++ m) each.0 (in_children p (n + 1) xs each.1)

  in_node : (p : CallRef) (x : Any S) → Bare p x
  in_node = by_children child Bare
      (λ p x each.
      ap told (parts_are p x) ∙ with_own p x (parts_below p 0 (child_nodes x)) ∙ ap (cons_option (own (erase_any x))) (in_children p 0 (child_nodes x) each ∙ ap in_all (sym (children_erased x)))
      ∙ sym (node_tells (erase_any x)))
    where
      with_own : (p : CallRef) (x : Any S) (qs : List (Placed (Part S))) → told (itself p x ++ qs) ≡ cons_option (own (erase_any x)) (told qs)
      with_own p (an_expression e) qs = ap (λ o. cons_option o (told qs)) (sym (expression_erased e))
      with_own p (a_statement s) qs = ap (λ o. cons_option o (told qs)) (sym (statement_erased s))
      with_own p (a_block b) qs = refl

  pub parts_file : (n : ℕ) (f : tree.File S) → told (parts_of_file n f) ≡ in_file (erase f)
  parts_file n (file s b) = in_node (place n []) (a_block b)

-- ---- trees that tell the same

abbrev pub SameNames : Option Plain → Option Plain → Type 0
SameNames None None = Unit {0}
SameNames (Some t) (Some u) = in_any (a_block (block_of u)) ≡ in_any (a_block (block_of t))
SameNames _ _ = ⊥

pub names_itself : (o : Option Plain) → SameNames o o
names_itself None = tt
names_itself (Some t) = refl
