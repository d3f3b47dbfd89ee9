-- The calls that are named are those that a command may mean: the one that it finds, and with a folder calls of its build file alone.
use Rattle.std.proofs.Common.{◌≡◌, ℕ, List, [], ◌∷◌, Option, Some, None, refl, sym, subst, ap, ◌∙◌}
use Rattle.std.specs.Prelude.{All, Result, Ok, Err, Bool, true, false, map, option_map, if◌then◌else◌}
use Rattle.std.specs.List.{cons_option}
use Rattle.std.proofs.lemmas.List.Elements.{All-cons, All-nil}
use Rattle.meson_lex.specs.declared.kinds.Span.{Span}
use Rattle.meson_splice.specs.Patch.{then_ok}
use Rattle.meson_syntax.proofs.parsing.Steps.{some-injective}
use Rattle.meson_syntax.proofs.paths.Every.{Every}
use Rattle.meson_calls.specs.declared.call.CallName.{CallName}
use Rattle.meson_calls.specs.declared.call.CallRef.{CallRef}
use Rattle.meson_calls.specs.declared.call.Role.{Role}
use Rattle.meson_calls.specs.declared.call.Role.TheVariants as role
use Rattle.meson_calls.specs.declared.refusal.Refusal.{Refusal}
use Rattle.meson_calls.specs.Calls.{Call, all_chosen, call_of, part_call}
use Rattle.meson_calls.specs.Finding.{any_project, call_within, only_one}
use Rattle.meson_calls.specs.Loading.{Loaded, project}
use Rattle.meson_calls.specs.Naming.{found_among, named_or_set, or_else, part_set_to, project_ids, value_of_assignment, values_among, with_name}
use Rattle.meson_calls.specs.Parts.{Part, parts}
use Rattle.meson_calls.specs.Project.{Project, Placed, expression_at}
use Rattle.meson_calls.specs.Roles.{one_of, places, role_calls, role_calls_among, with_role}
use Rattle.meson_calls.specs.Searching.{project_names, searched_file, within}
use Rattle.meson_calls.proofs.CallsReached.{every_chosen}
use Rattle.meson_calls.proofs.Searched.{all_in_file}
use Rattle.meson_details.specs.declared.details.Head.{Head}
use Rattle.meson_details.specs.Details.{head}
use Rattle.meson_targets.specs.TargetEdits.{variable_of}
use Rattle.meson_inventory.specs.Holdings.{call_end, held_call, held_calls, held_named}
use Rattle.meson_inventory.specs.Laws.{NamedAreSearched, OneIsNamed}
use Rattle.meson_inventory.specs.declared.holdings.HeldCall.{HeldCall}

-- ---- the one that is found

only : (xs : List (Placed (Call Span))) (c : Placed (Call Span)) → only_one xs ≡ Ok c → xs ≡ c ∷ []
only [] c is = absurd (let never : ⊥ = cc in never)
only (x ∷ []) c is = let same : x ≡ c = cc in ap (λ y. y ∷ []) same
only (x ∷ y ∷ more) c is = absurd (let never : ⊥ = cc in never)

one_found : (w : Option ℕ) (p : Project Span) (r : Role) (id : List ℕ) (c : Placed (Call Span)) → call_within w p r id ≡ Ok c → found_among (within w (parts p)) r id ≡ c ∷ []
one_found w p role.Target id c is = only (found_among (within w (parts p)) role.Target id) c is
one_found w p role.Dependency id c is = only (found_among (within w (parts p)) role.Dependency id) c is
one_found w p role.Project id c is = go (role_calls p role.Project) is
  where
    go : (projects : List (Placed (Call Span))) → then_ok (any_project projects) (λ _. only_one (found_among (within w (parts p)) role.Project id)) ≡ Ok c
        → found_among (within w (parts p)) role.Project id ≡ c ∷ []
    go [] same = absurd (let never : ⊥ = cc in never)
    go (q ∷ projects) same = only (found_among (within w (parts p)) role.Project id) c same

-- those that are named in the files that are searched
abbrev named_within : Loaded → Role → CallName → Option ℕ → Result (List CallRef) Refusal
named_within l r name w = Ok (places (found_among (within w (parts (project l))) r name.id))

pub one_is_named : OneIsNamed
one_is_named l r name c is = go (searched_file (project_names (project l)) name.folder) is
  where
    go : (o : Result (Option ℕ) Refusal) → then_ok o (λ w. call_within w (project l) r name.id) ≡ Ok c
        → held_named l (then_ok o (named_within l r name)) ≡ held_calls l (c.place ∷ [])
    go (Err e) same = absurd (let never : ⊥ = cc in never)
    go (Ok w) same = ap (λ cs. held_calls l (places cs)) (one_found w (project l) r name.id c same)

-- ---- those of one file

abbrev IsIn : {X : Type 0} → ℕ → Placed X → Type 0
IsIn n x = x.place.file ≡ n

-- what is chosen stays in its file
chosen_in : {X Y : Type 0} (n : ℕ) (choose : X → Option Y) (xs : List (Placed X)) → Every (IsIn n) xs → Every (IsIn n) (all_chosen choose xs)
chosen_in n choose xs all = every_chosen (IsIn n) (IsIn n) choose (λ q y at is. at) xs all

moved_in : {X : Type 0} (n : ℕ) (xs : List (Placed X)) → Every (IsIn n) xs → Every (IsIn n) (map value_of_assignment xs)
moved_in n [] all = tt
moved_in n (x ∷ xs) all = (all.0, moved_in n xs all.1)

either_in : {X : Type 0} (n : ℕ) (xs ys : List (Placed X)) → Every (IsIn n) xs → Every (IsIn n) ys → Every (IsIn n) (or_else xs ys)
either_in n [] ys a b = b
either_in n (x ∷ xs) ys a b = a

if_in : {X : Type 0} (n : ℕ) (b : Bool) (xs : List (Placed X)) → Every (IsIn n) xs → Every (IsIn n) (if b then xs else [])
if_in n true xs all = all
if_in n false xs all = tt

module _ (n : ℕ) (qs : List (Placed (Part Span))) (all : Every (IsIn n) qs) where
  calls_in : (r : Role) → Every (IsIn n) (role_calls_among qs r)
  calls_in r = chosen_in n (with_role r) (all_chosen part_call qs) (chosen_in n part_call qs all)

  named_in : (r : Role) (id : List ℕ) → Every (IsIn n) (named_or_set qs r id)
  named_in r id =
      either_in n (all_chosen (with_name id) (role_calls_among qs r)) (all_chosen (with_role r) (all_chosen call_of (values_among qs id)))
      (chosen_in n (with_name id) (role_calls_among qs r) (calls_in r))
      (chosen_in n (with_role r) (all_chosen call_of (values_among qs id))
      (chosen_in n call_of (values_among qs id) (moved_in n (all_chosen (part_set_to id) qs) (chosen_in n (part_set_to id) qs all))))

  found_in : (r : Role) (id : List ℕ) → Every (IsIn n) (found_among qs r id)
  found_in role.Target id = named_in role.Target id
  found_in role.Dependency id = named_in role.Dependency id
  found_in role.Project id = if_in n (one_of project_ids id) (role_calls_among qs role.Project) (calls_in role.Project)

-- and is held as a call of that file
held_in : (l : Loaded) (n : ℕ) (c : CallRef) (h : HeldCall) → c.file ≡ n → held_call l c ≡ Some h → h.file ≡ n
held_in l n c h at is = go (head (project l) c) is
  where
    go : (o : Option Head) → option_map (λ k. record { file = c.file; head = k; variable = variable_of (project l) c; end = call_end (expression_at (project l) c) }) o ≡ Some h → h.file ≡ n
    go None same = absurd (let never : ⊥ = cc in never)
    go (Some k) same = ap (λ (x : HeldCall). x.file) (sym (some-injective _ h same)) ∙ at

all_held : (l : Loaded) (n : ℕ) (cs : List (Placed (Call Span))) → Every (IsIn n) cs → All (λ (h : HeldCall). h.file ≡ n) (held_calls l (places cs))
all_held l n [] every = All-nil (λ (h : HeldCall). h.file ≡ n)
all_held l n (c ∷ cs) every = go (held_call l c.place) refl (all_held l n cs every.1)
  where
    go : (o : Option HeldCall) → held_call l c.place ≡ o → All (λ (h : HeldCall). h.file ≡ n) (held_calls l (places cs))
        → All (λ (h : HeldCall). h.file ≡ n) (cons_option o (held_calls l (places cs)))
    go None is rest = rest
    go (Some h) is rest = All-cons (λ (h : HeldCall). h.file ≡ n) h (held_calls l (places cs)) (held_in l n c.place h every.0 is) rest

pub named_are_searched : NamedAreSearched
named_are_searched l r name n is =
    subst (λ o. All (λ (h : HeldCall). h.file ≡ n) (held_named l (then_ok o (named_within l r name)))) (sym is)
    (all_held l n (found_among (within (Some n) (parts (project l))) r name.id) (found_in n (within (Some n) (parts (project l))) (all_in_file n (parts (project l))) r name.id))
