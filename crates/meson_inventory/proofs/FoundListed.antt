-- What an id finds is among the targets that are listed, under that id.
use Rattle.std.proofs.Common.{◌≡◌, ◌⊎◌, inl, inr, ℕ, zero, suc, ◌<◌, List, [], ◌∷◌, length, get_or, map, Option, Some, None, refl, sym, ap, ◌∙◌, arith}
use Rattle.std.specs.Prelude.{All, Bool, true, false, bytes_eq, if◌then◌else◌, option_map, option_and_then}
use Rattle.std.specs.List.{Contains, cons_option, filter_map}
use Rattle.std.proofs.lemmas.Slice.Eq.{bytes_eq-Decides}
use Rattle.meson_lex.specs.declared.kinds.Span.{Span}
use Rattle.meson_syntax.specs.declared.operator.Assignment.TheVariants as assignment
use Rattle.meson_syntax.specs.Tree.{Name, Expression, call, Statement, assign}
use Rattle.meson_syntax.proofs.parsing.Steps.{some-injective}
use Rattle.meson_syntax.proofs.paths.Every.{Every}
use Rattle.meson_calls.specs.declared.call.CallRef.{CallRef}
use Rattle.meson_calls.specs.declared.call.Reading.TheVariants.{Written}
use Rattle.meson_calls.specs.declared.call.Role.{Role}
use Rattle.meson_calls.specs.declared.call.Role.TheVariants as role
use Rattle.meson_calls.specs.AllParts.{PartsAreAll}
use Rattle.meson_calls.specs.Calls.{Call, call_of, part_call, all_chosen, calls, chosen, first_literal, is}
use Rattle.meson_calls.specs.Loading.{Loaded, project}
use Rattle.meson_calls.specs.Parts.{Part, parts}
use Rattle.meson_calls.specs.Parts as part
use Rattle.meson_calls.specs.ChosenNotes.{call_with}
use Rattle.meson_calls.specs.Project.{Project, Placed, placed, expression_at}
use Rattle.meson_calls.specs.Naming.{found, found_among, named_or_set, or_else, part_set_to, project_ids, set_to, value_of_assignment, values_among, with_name}
use Rattle.meson_calls.specs.Roles.{has_role, one_of, places, role_calls, role_calls_among, targets, with_role}
use Rattle.meson_calls.specs.Searching.{within}
use Rattle.meson_calls.proofs.CallsReached.{InProject, every_chosen, every_part}
use Rattle.meson_calls.proofs.ExpressionsAt.{assigned_stands, expression_stands}
use Rattle.meson_calls.proofs.Searched.{every_within}
use Rattle.meson_details.specs.Details.{head_of}
use Rattle.meson_targets.specs.TargetEdits.{variable_of}
use Rattle.meson_targets.proofs.VariableStatements.{value_has_variable}
use Rattle.meson_inventory.specs.Holdings.{call_end, held_call, holdings}
use Rattle.meson_inventory.specs.Laws.{FoundAreListed, IsListed}
use Rattle.meson_inventory.specs.declared.holdings.HeldCall.{HeldCall}

-- ---- elements of lists

abbrev pub Among : {X : Type 0} → List X → X → Type 0
Among [] x = ⊥
Among (y ∷ ys) x = (y ≡ x) ⊎ Among ys x

pub among : {X : Type 0} (xs : List X) (x : X) (k : ℕ) → k < length xs → get_or xs k x ≡ x → Among xs x
among [] x k within at_k = absurd (omega (arith, within))
among (y ∷ ys) x zero within at_k = inl at_k
among (y ∷ ys) x (suc k) within at_k = let below : k < length ys = omega (arith, within) in inr (among ys x k below at_k)

pub contained : {X : Type 0} (xs : List X) (x : X) → Among xs x → Contains xs x
contained [] x m = absurd m
contained (y ∷ ys) x (inl same) = (0, omega arith, same)
contained (y ∷ ys) x (inr m) = let c = contained ys x m in let within : suc c.0 < suc (length ys) = omega (arith, c.1) in (suc c.0, within, c.2)

pub given : {X Y : Type 0} (f : X → Option Y) (xs : List X) (x : X) (y : Y) → Among xs x → f x ≡ Some y → Among (filter_map f xs) y
given f [] x y m gives = absurd m
given {X} {Y} f (z ∷ zs) x y (inl same) gives = first (f z) (ap f same ∙ gives)
  where
    first : (o : Option Y) → o ≡ Some y → Among (cons_option o (filter_map f zs)) y
    first None e = absurd (let no : ⊥ = cc in no)
    first (Some w) e = inl (some-injective w y e)
given {X} {Y} f (z ∷ zs) x y (inr m) gives = later (f z) (given f zs x y m gives)
  where
    later : (o : Option Y) → Among (filter_map f zs) y → Among (cons_option o (filter_map f zs)) y
    later None n = n
    later (Some w) n = inr n

mapped : {X Y : Type 0} (f : X → Y) (xs : List X) (x : X) → Among xs x → Among (map f xs) (f x)
mapped f [] x m = absurd m
mapped f (y ∷ ys) x (inl same) = inl (ap f same)
mapped f (y ∷ ys) x (inr m) = inr (mapped f ys x m)

-- ---- a target that stands at a place is listed

pub record Standing (p : Project Span) (c : Placed (Call Span)) : Type 0 where
  pub value : Expression Span
  pub is_at : expression_at p c.place ≡ Some value
  pub is_call : call_of value ≡ Some c.it

part_stands : (p : Project Span) (q : Placed (Part Span)) (c : Call Span) → InProject 0 p q → part_call q.it ≡ Some c → Standing p (placed q.place c)
part_stands p q c i h = of_part q.it refl h
  where
    of_part : (x : Part Span) → q.it ≡ x → part_call x ≡ Some c → Standing p (placed q.place c)
    of_part (part.an_expression e) same k = record { value = e; is_at = expression_stands p q e i same; is_call = k }
    of_part (part.a_statement s) same k = absurd (let no : ⊥ = cc in no)

pub every_call_stands : (p : Project Span) → Every (Standing p) (calls p)
every_call_stands p = every_chosen (InProject 0 p) (Standing p) part_call (part_stands p) (parts p) (every_part 0 p)

pub record HeldAs (l : Loaded) (c : Placed (Call Span)) : Type 0 where
  pub held : HeldCall
  pub is_held : held_call l c.place ≡ Some held
  pub file : held.file ≡ c.place.file
  pub name : held.head.name ≡ first_literal c.it
  pub variable : held.variable ≡ variable_of (project l) c.place

pub held_as : (l : Loaded) (c : Placed (Call Span)) (e : Expression Span) → expression_at (project l) c.place ≡ Some e → call_of e ≡ Some c.it → HeldAs l c
held_as l c (call s f list) at is_call =
    let same : call_with f.text list ≡ c.it = cc in
    record { held = _; is_held = ap (λ o. option_map (λ h. record { file = c.place.file; head = h; variable = variable_of (project l) c.place; end = call_end o }) (option_and_then head_of o)) at; file = refl; name = ap first_literal same; variable = refl }
held_as l c _ at is_call = absurd (let no : ⊥ = cc in no)

module _ (all : PartsAreAll) (l : Loaded) where
  abbrev p : Project Span
  p = project l

  target_among : (c : Placed (Call Span)) → Standing p c → has_role role.Target c.it ≡ true → Among (targets p) c.place
  target_among c s has =
      let there = (all p c.place s.value).1 s.is_at in
      let among_parts = among (parts p) (placed c.place (part.an_expression s.value)) there.0 there.1 there.2 in
      let among_calls = given (chosen part_call) (parts p) (placed c.place (part.an_expression s.value)) c among_parts (ap (option_map (placed c.place)) s.is_call) in
      let among_targets = given (chosen (with_role role.Target)) (calls p) c c among_calls (ap (λ b. option_map (placed c.place) (if b then Some c.it else None)) has) in
      mapped (λ (d : Placed (Call Span)). d.place) (role_calls p role.Target) c among_targets

  is_listed : (id : List ℕ) (c : Placed (Call Span)) → Standing p c → has_role role.Target c.it ≡ true → (first_literal c.it ≡ Some id) ⊎ (variable_of p c.place ≡ Some id) → IsListed l id c.place
  is_listed id c s has named =
      let h = held_as l c s.value s.is_at s.is_call in
      record {
        call = h.held;
        is_held = h.is_held;
        among = contained (holdings Written l).targets h.held (given (held_call l) (targets p) c.place h.held (target_among c s has) h.is_held);
        named = elim named [ inl name ↦ inl (h.name ∙ name) | inr variable ↦ inr (h.variable ∙ variable) ];
      }

-- ---- what an id finds

same_bytes : (x y : List ℕ) → bytes_eq x y ≡ true → x ≡ y
same_bytes x y equal = (bytes_eq-Decides x y).0 equal

is_there : (id : List ℕ) (o : Option (List ℕ)) → is id o ≡ true → o ≡ Some id
is_there id None t = absurd (let no : ⊥ = cc in no)
is_there id (Some x) t = ap Some (sym (same_bytes id x t))

pub some_if : {X : Type 0} (b : Bool) (x y : X) → (if b then Some x else None) ≡ Some y → (b ≡ true) × (x ≡ y)
some_if true x y same = (refl, some-injective x y same)
some_if false x y same = absurd (let no : ⊥ = cc in no)

module _ (p : Project Span) (r : Role) (id : List ℕ) where
  record OfRole (c : Placed (Call Span)) : Type 0 where
    at : Standing p c
    is_one : has_role r c.it ≡ true

  record Finds (c : Placed (Call Span)) : Type 0 where
    one : OfRole c
    named : (first_literal c.it ≡ Some id) ⊎ (variable_of p c.place ≡ Some id)

  -- a value that the variable is set to, or a call that is one
  record Value (x : Placed (Expression Span)) : Type 0 where
    stands : expression_at p x.place ≡ Some x.it
    set : variable_of p x.place ≡ Some id

  record Set (c : Placed (Call Span)) : Type 0 where
    at : Standing p c
    set : variable_of p c.place ≡ Some id

  -- ---- by name

  role_stands : (q : Placed (Call Span)) (c : Call Span) → Standing p q → with_role r q.it ≡ Some c → OfRole (placed q.place c)
  role_stands q c s h =
      let b = some_if (has_role r q.it) q.it c h in
      record {
        at = record { value = s.value; is_at = s.is_at; is_call = s.is_call ∙ ap Some b.1 };
        is_one = ap (has_role r) (sym b.1) ∙ b.0;
      }

  name_finds : (q : Placed (Call Span)) (c : Call Span) → OfRole q → with_name id q.it ≡ Some c → Finds (placed q.place c)
  name_finds q c t h =
      let b = some_if (is id (first_literal q.it)) q.it c h in
      record {
        one = record {
          at = record { value = t.at.value; is_at = t.at.is_at; is_call = t.at.is_call ∙ ap Some b.1 };
          is_one = ap (has_role r) (sym b.1) ∙ t.is_one;
        };
        named = inl (ap (λ (d : Call Span). first_literal d) (sym b.1) ∙ is_there id (first_literal q.it) b.0);
      }

  -- ---- by variable

  -- of an assignment, before its value has the value's place
  record Before (x : Placed (Expression Span)) : Type 0 where
    value : Value (value_of_assignment x)

  assigned : (q : Placed (Part Span)) (e : Expression Span) → InProject 0 p q → part_set_to id q.it ≡ Some e → Before (placed q.place e)
  assigned q e i h = of_part q.it refl h
    where
      of_name : (s : Span) (x : Name Span) (f : Expression Span) → q.it ≡ part.a_statement (assign s x assignment.Set f) → (bytes_eq x.text id ≡ true) × (f ≡ e) → Before (placed q.place e)
      of_name s x f same b = record {
        value = record {
          stands = assigned_stands p q s x assignment.Set f i same ∙ ap Some b.1;
          set = value_has_variable p q i s x f same ∙ ap Some (same_bytes x.text id b.0);
        };
      }

      of_statement : (s : Statement Span) → q.it ≡ part.a_statement s → set_to id s ≡ Some e → Before (placed q.place e)
      of_statement (assign s x assignment.Set f) same k = of_name s x f same (some_if (bytes_eq x.text id) f e k)
      of_statement _ same k = absurd (let no : ⊥ = cc in no)

      of_part : (x : Part Span) → q.it ≡ x → part_set_to id x ≡ Some e → Before (placed q.place e)
      of_part (part.an_expression f) same k = absurd (let no : ⊥ = cc in no)
      of_part (part.a_statement s) same k = of_statement s same k

  every_value : (xs : List (Placed (Expression Span))) → Every Before xs → Every Value (map value_of_assignment xs)
  every_value [] every = tt
  every_value (x ∷ xs) every = (every.0.value, every_value xs every.1)

  call_set : (x : Placed (Expression Span)) (c : Call Span) → Value x → call_of x.it ≡ Some c → Set (placed x.place c)
  call_set x c v h = record { at = record { value = x.it; is_at = v.stands; is_call = h }; set = v.set }

  variable_finds : (q : Placed (Call Span)) (c : Call Span) → Set q → with_role r q.it ≡ Some c → Finds (placed q.place c)
  variable_finds q c s h = record { one = role_stands q c s.at h; named = inr s.set }

  -- ---- among some parts

  either : (xs ys : List (Placed (Call Span))) → Every Finds xs → Every Finds ys → Every Finds (or_else xs ys)
  either [] ys a b = b
  either (x ∷ xs) ys a b = a

  module _ (qs : List (Placed (Part Span))) (each : Every (InProject 0 p) qs) where
    every_role : Every OfRole (role_calls_among qs r)
    every_role =
        every_chosen (Standing p) OfRole (with_role r) role_stands (all_chosen part_call qs) (every_chosen (InProject 0 p) (Standing p) part_call (part_stands p) qs each)

    every_named : Every Finds (all_chosen (with_name id) (role_calls_among qs r))
    every_named = every_chosen OfRole Finds (with_name id) name_finds (role_calls_among qs r) every_role

    every_set : Every Finds (all_chosen (with_role r) (all_chosen call_of (values_among qs id)))
    every_set =
        every_chosen Set Finds (with_role r) variable_finds (all_chosen call_of (values_among qs id))
        (every_chosen Value Set call_of call_set (values_among qs id)
        (every_value (all_chosen (part_set_to id) qs) (every_chosen (InProject 0 p) Before (part_set_to id) assigned qs each)))

    every_found : Every Finds (named_or_set qs r id)
    every_found = either _ _ every_named every_set

all_listed : (all : PartsAreAll) (l : Loaded) (id : List ℕ) (cs : List (Placed (Call Span))) → Every (Finds (project l) role.Target id) cs → All (IsListed l id) (places cs)
all_listed all l id [] every = λ k d within. absurd (omega (arith, within))
all_listed all l id (c ∷ cs) every = at (all_listed all l id cs every.1)
  where
    at : All (IsListed l id) (places cs) → (k : ℕ) (d : CallRef) → k < suc (length (places cs)) → IsListed l id (get_or (c.place ∷ places cs) k d)
    at rest zero d within = is_listed all l id c every.0.one.at every.0.one.is_one every.0.named
    at rest (suc k) d within = let below : k < length (places cs) = omega (arith, within) in rest k d below

pub found_are_listed : PartsAreAll → FoundAreListed
found_are_listed all l id = all_listed all l id (found (project l) role.Target id) (every_found (project l) role.Target id (parts (project l)) (every_part 0 (project l)))

-- ---- and stands at its place

standing : (p : Project Span) (P : Placed (Call Span) → Type 0) → ((c : Placed (Call Span)) → P c → Standing p c) → (cs : List (Placed (Call Span))) → Every P cs → Every (Standing p) cs
standing p P stands [] every = tt
standing p P stands (c ∷ cs) every = (stands c every.0, standing p P stands cs every.1)

only_if : (p : Project Span) (b : Bool) (cs : List (Placed (Call Span))) → Every (Standing p) cs → Every (Standing p) (if b then cs else [])
only_if p true cs every = every
only_if p false cs every = tt

module _ (p : Project Span) (qs : List (Placed (Part Span))) (each : Every (InProject 0 p) qs) where
  named_stand : (r : Role) (id : List ℕ) → Every (Standing p) (named_or_set qs r id)
  named_stand r id = standing p (Finds p r id) (λ c f. f.one.at) (named_or_set qs r id) (every_found p r id qs each)

  among_stand : (r : Role) (id : List ℕ) → Every (Standing p) (found_among qs r id)
  among_stand role.Target id = named_stand role.Target id
  among_stand role.Dependency id = named_stand role.Dependency id
  among_stand role.Project id =
      only_if p (one_of project_ids id) (role_calls_among qs role.Project)
      (standing p (OfRole p role.Project id) (λ c o. o.at) (role_calls_among qs role.Project) (every_role p role.Project id qs each))

-- in the files that are searched
pub found_stand : (p : Project Span) (w : Option ℕ) (r : Role) (id : List ℕ) → Every (Standing p) (found_among (within w (parts p)) r id)
found_stand p w r id = among_stand p (within w (parts p)) (every_within (InProject 0 p) w (parts p) (every_part 0 p)) r id
