-- The call that an id names stands at its place, with its arguments in round brackets.
use Rattle.meson_calls.proofs.Words.{Err, false, if◌then◌else◌, bytes_eq, Ok, ◌≡◌, ℕ, List, [], ◌∷◌, map, Some, None, refl, ap, ◌∙◌, subst, Bool, true, then_ok}
use Rattle.meson_calls.proofs.Words.{Span, ListIn, list_in, Name, Expression, call, Statement, assign, Every, CallThere, CallsStand, Call, call_of, part_call}
use Rattle.meson_calls.proofs.Words.{all_chosen, first_literal, is, only_one, any_project, with_name, set_to, part_set_to, value_of_assignment}
use Rattle.meson_calls.proofs.Words.{or_else, named_or_set, values_among, within, project_ids, Option, Result, Refusal, role_calls_among, Part, parts, Project, Placed, placed, child}
use Rattle.meson_calls.proofs.Words.{expression_at, has_role, with_role, role_calls, one_of, Role}
use Rattle.meson_syntax.specs.declared.operator.Assignment.TheVariants as assignment
use Rattle.meson_syntax.specs.declared.operator.Bracket.TheVariants as bracket
use Rattle.meson_calls.specs.declared.call.Role.TheVariants as role
use Rattle.meson_calls.specs.Parts as part
use Rattle.meson_calls.specs.Finding.{call_within, the_call}
use Rattle.meson_calls.specs.Searching.{project_names, searched_file}
use Rattle.meson_calls.specs.declared.call.CallName.{CallName}
use Rattle.meson_calls.proofs.CallsReached.{every_chosen, InProject, every_part}
use Rattle.meson_calls.proofs.Searched.{every_within}
use Rattle.meson_calls.proofs.ExpressionsAt.{list_here, expression_stands, assigned_stands}

-- ---- calls at their places

pub record CallAt (p : Project Span) (c : Placed (Call Span)) : Type 0 where
  pub value : Expression Span
  pub is_at : expression_at p c.place ≡ Some value
  pub is_call : call_of value ≡ Some c.it

-- one of a role
pub record RoleAt (p : Project Span) (r : Role) (c : Placed (Call Span)) : Type 0 where
  pub at : CallAt p c
  pub is_one : has_role r c.it ≡ true

abbrev ValueAt : Project Span → Placed (Expression Span) → Type 0
ValueAt p x = expression_at p x.place ≡ Some x.it

part_at : (p : Project Span) (q : Placed (Part Span)) (c : Call Span) → InProject 0 p q → part_call q.it ≡ Some c → CallAt p (placed q.place c)
part_at p q c i is = go q.it refl is
  where
    go : (x : Part Span) → q.it ≡ x → part_call x ≡ Some c → CallAt p (placed q.place c)
    go (part.an_expression e) same h = record { value = e; is_at = expression_stands p q e i same; is_call = h }
    go (part.a_statement s) same h = absurd cc

value_at : (p : Project Span) (q : Placed (Expression Span)) (c : Call Span) → ValueAt p q → call_of q.it ≡ Some c → CallAt p (placed q.place c)
value_at p q c at h = record { value = q.it; is_at = at; is_call = h }

role_at : (p : Project Span) (r : Role) (q : Placed (Call Span)) (c : Call Span) → CallAt p q → with_role r q.it ≡ Some c → RoleAt p r (placed q.place c)
role_at p r q c at h = go (has_role r q.it) refl h
  where
    go : (b : Bool) → has_role r q.it ≡ b → (if b then Some q.it else None) ≡ Some c → RoleAt p r (placed q.place c)
    go true has k = let same : q.it ≡ c = cc in subst (λ d. RoleAt p r (placed q.place d)) same (record { at = at; is_one = has })
    go false has k = absurd cc

named_at : (p : Project Span) (r : Role) (id : List ℕ) (q : Placed (Call Span)) (c : Call Span) → RoleAt p r q → with_name id q.it ≡ Some c → RoleAt p r (placed q.place c)
named_at p r id q c at h = go (is id (first_literal q.it)) h
  where
    go : (b : Bool) → (if b then Some q.it else None) ≡ Some c → RoleAt p r (placed q.place c)
    go true k = let same : q.it ≡ c = cc in subst (λ d. RoleAt p r (placed q.place d)) same at
    go false k = absurd cc

-- ---- values of assignments

abbrev SetAt : Project Span → Placed (Expression Span) → Type 0
SetAt p x = expression_at p (child x.place 0) ≡ Some x.it

set_at : (p : Project Span) (x : List ℕ) (q : Placed (Part Span)) (e : Expression Span) → InProject 0 p q → part_set_to x q.it ≡ Some e → SetAt p (placed q.place e)
set_at p x q e i is = go q.it refl is
  where
    given : (s : Span) (y : Name Span) (f : Expression Span) (b : Bool) → q.it ≡ part.a_statement (assign s y assignment.Set f) → (if b then Some f else None) ≡ Some e → SetAt p (placed q.place e)
    given s y f true same k = let here : f ≡ e = cc in assigned_stands p q s y assignment.Set f i same ∙ ap Some here
    given s y f false same k = absurd cc

    stated : (s : Statement Span) → q.it ≡ part.a_statement s → set_to x s ≡ Some e → SetAt p (placed q.place e)
    stated (assign s y assignment.Set f) same k = given s y f (bytes_eq y.text x) same k
    stated _ same k = absurd cc

    go : (y : Part Span) → q.it ≡ y → part_set_to x y ≡ Some e → SetAt p (placed q.place e)
    go (part.an_expression f) same k = absurd cc
    go (part.a_statement s) same k = stated s same k

every_value : (p : Project Span) (xs : List (Placed (Expression Span))) → Every (SetAt p) xs → Every (ValueAt p) (map value_of_assignment xs)
every_value p [] all = tt
every_value p (x ∷ xs) all = (all.0, every_value p xs all.1)

-- ---- the one that is found

every_or : {X : Type 0} (P : X → Type 0) (xs ys : List X) → Every P xs → Every P ys → Every P (or_else xs ys)
every_or P [] ys a b = b
every_or P (x ∷ xs) ys a b = a

every_among : (p : Project Span) (r : Role) (qs : List (Placed (Part Span))) → Every (InProject 0 p) qs → Every (RoleAt p r) (role_calls_among qs r)
every_among p r qs all = every_chosen (CallAt p) (RoleAt p r) (with_role r) (role_at p r) (all_chosen part_call qs) (every_chosen (InProject 0 p) (CallAt p) part_call (part_at p) qs all)

every_named : (p : Project Span) (r : Role) (id : List ℕ) (qs : List (Placed (Part Span))) → Every (InProject 0 p) qs → Every (RoleAt p r) (named_or_set qs r id)
every_named p r id qs all =
    every_or (RoleAt p r) _ _
    (every_chosen (RoleAt p r) (RoleAt p r) (with_name id) (named_at p r id) (role_calls_among qs r) (every_among p r qs all))
    (every_chosen (CallAt p) (RoleAt p r) (with_role r) (role_at p r) (all_chosen call_of (values_among qs id))
    (every_chosen (ValueAt p) (CallAt p) call_of (value_at p) (values_among qs id)
    (every_value p (all_chosen (part_set_to id) qs) (every_chosen (InProject 0 p) (SetAt p) (part_set_to id) (set_at p id) qs all))))

every_if : {X : Type 0} (P : X → Type 0) (xs : List X) (b : Bool) → Every P xs → Every P (if b then xs else [])
every_if P xs true all = all
every_if P xs false all = tt

one_at : (p : Project Span) (r : Role) (ys : List (Placed (Call Span))) (c : Placed (Call Span)) → Every (RoleAt p r) ys → only_one ys ≡ Ok c → RoleAt p r c
one_at p r [] c all h = absurd cc
one_at p r (y ∷ []) c all h = let same : y ≡ c = cc in subst (RoleAt p r) same all.0
one_at p r (y ∷ z ∷ ys) c all h = absurd cc

one_behind : (p : Project Span) (r : Role) (xs ys : List (Placed (Call Span))) (c : Placed (Call Span)) → Every (RoleAt p r) ys → then_ok (any_project xs) (λ _. only_one ys) ≡ Ok c → RoleAt p r c
one_behind p r [] ys c all h = absurd cc
one_behind p r (x ∷ xs) ys c all h = one_at p r ys c all h

searched_parts : (w : Option ℕ) (p : Project Span) → Every (InProject 0 p) (within w (parts p))
searched_parts w p = every_within (InProject 0 p) w (parts p) (every_part 0 p)

pub within_found : (w : Option ℕ) (p : Project Span) (r : Role) (id : List ℕ) (c : Placed (Call Span)) → call_within w p r id ≡ Ok c → RoleAt p r c
within_found w p role.Target id c h = one_at p role.Target _ c (every_named p role.Target id (within w (parts p)) (searched_parts w p)) h
within_found w p role.Dependency id c h = one_at p role.Dependency _ c (every_named p role.Dependency id (within w (parts p)) (searched_parts w p)) h
within_found w p role.Project id c h =
    let qs = within w (parts p) in
    one_behind p role.Project (role_calls p role.Project) _ c
    (every_if (RoleAt p role.Project) (role_calls_among qs role.Project) (one_of project_ids id) (every_among p role.Project qs (searched_parts w p))) h

pub role_found : (p : Project Span) (r : Role) (name : CallName) (c : Placed (Call Span)) → the_call p r name ≡ Ok c → RoleAt p r c
role_found p r name c h = go (searched_file (project_names p) name.folder) h
  where
    go : (o : Result (Option ℕ) Refusal) → then_ok o (λ w. call_within w p r name.id) ≡ Ok c → RoleAt p r c
    go (Ok w) k = within_found w p r name.id c k
    go (Err e) k = absurd cc

-- ---- its list

record RoundList (e : Expression Span) (c : Call Span) : Type 0 where
  list : ListIn Span
  is_list : list_in e ≡ Some list
  same : list.list ≡ c.arguments
  is_round : list.bracket ≡ bracket.Round

round_list : (e : Expression Span) (c : Call Span) → call_of e ≡ Some c → RoundList e c
round_list (call s f l) c h =
    let same : record { function = f.text; arguments = l } ≡ c = cc in
    record { list = _; is_list = refl; same = ap (λ (k : Call Span). k.arguments) same; is_round = refl }
round_list _ c h = absurd cc

call_there : (p : Project Span) (c : Placed (Call Span)) → CallAt p c → CallThere p c
call_there p c at =
    let r = round_list at.value c.it at.is_call in
    let h = list_here p c.place at.value r.list at.is_at r.is_list in
    record { there = h.there; is_list = h.same_list ∙ r.same; is_round = h.same_bracket ∙ r.is_round }

pub calls_stand : CallsStand
calls_stand p r name c h = call_there p c (role_found p r name c h).at
