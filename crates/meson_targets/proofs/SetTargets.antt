-- A target that its variable names: with the statement that sets the variable the target is gone from what the variable names.
use Rattle.meson_targets.proofs.Words.{◌≡◌, ℕ, true, false, List, [], ◌∷◌, ◌++◌, map, Option, Some, None, refl, sym, ap, ap₂, ◌∙◌, subst, arith, Bool}
use Rattle.meson_targets.proofs.Words.{if◌then◌else◌, bytes_eq, option_and_then, option_map, cons_option, filter_map, Span, block_of, Nowhere, Name, Expression}
use Rattle.meson_targets.proofs.Words.{call, Statement, assign, erase_expression, erase_statement, some-injective, Every, BlockAt, block_at, statement_in, Call}
use Rattle.meson_targets.proofs.Words.{all_chosen, call_of, values_among, part_set_to, value_of_assignment, Part, parts_of_expression}
use Rattle.meson_targets.proofs.Words.{parts_of_statement, BuildFile, Placed, Project, child, nth_file, place, placed, has_role, with_role, CallRef, InProject}
use Rattle.meson_targets.proofs.Words.{every_chosen, any, bare_call, bare_part, bare_placed, role_alike, StatementPlace}
use Rattle.meson_syntax.specs.declared.operator.Assignment.TheVariants as assignment
use Rattle.meson_syntax.specs.Children as syntax
use Rattle.meson_syntax.specs.inside.Children as tree_nodes
use Rattle.meson_calls.specs.declared.call.Role.TheVariants as role
use Rattle.meson_calls.specs.Parts.{a_statement}
use Rattle.meson_targets.proofs.ChosenParts.{chosen_its, chosen_told}
use Rattle.meson_targets.proofs.StatementTargets.{LineOf, statement_node}
use Rattle.meson_targets.proofs.ToldParts.{told}

-- ---- the front of a path

front_of : (xs ys : List ℕ) (a n b : ℕ) → xs ++ a ∷ [] ≡ ys ++ n ∷ b ∷ [] → xs ≡ ys ++ n ∷ []
front_of [] [] a n b same = absurd cc
front_of [] (y ∷ []) a n b same = absurd cc
front_of [] (y ∷ z ∷ ys) a n b same = absurd cc
front_of (x ∷ []) [] a n b same = let first : x ≡ n = cc in ap (λ i. i ∷ []) first
front_of (x ∷ z ∷ []) [] a n b same = absurd cc
front_of (x ∷ z ∷ w ∷ xs) [] a n b same = absurd cc
front_of (x ∷ xs) (y ∷ ys) a n b same =
    let first : x ≡ y = cc in
    let rest : xs ++ a ∷ [] ≡ ys ++ n ∷ b ∷ [] = cc in
    ap (λ i. i ∷ xs) first ∙ ap (λ l. y ∷ l) (front_of xs ys a n b rest)

module _ (id : List ℕ) where
  abbrev set_target : {S : Type 0} → Expression S → Option (Call S)
  set_target e = option_and_then (with_role role.Target) (call_of e)

  abbrev pub tell_set : {S : Type 0} → Part S → Option (Call S)
  tell_set x = option_and_then set_target (part_set_to id x)

  -- the targets that a variable of this name is set to
  abbrev pub set_targets : {S : Type 0} → List (Placed (Part S)) → List (Placed (Call S))
  set_targets qs = all_chosen (with_role role.Target) (all_chosen call_of (values_among qs id))

  moved_its : {X Y : Type 0} (h : X → Option Y) (qs : List (Placed X)) → filter_map (λ (q : Placed X). h q.it) (map value_of_assignment qs) ≡ filter_map (λ (q : Placed X). h q.it) qs
  moved_its h [] = refl
  moved_its h (q ∷ qs) = ap (cons_option (h q.it)) (moved_its h qs)

  pub set_told : {S : Type 0} (qs : List (Placed (Part S))) → map (λ (c : Placed (Call S)). c.it) (set_targets qs) ≡ filter_map (λ (q : Placed (Part S)). tell_set q.it) qs
  set_told qs =
      chosen_its (with_role role.Target) (all_chosen call_of (values_among qs id)) ∙ sym (chosen_told call_of (with_role role.Target) (values_among qs id))
      ∙ moved_its set_target (all_chosen (part_set_to id) qs) ∙ sym (chosen_told (part_set_to id) set_target qs)

  -- ---- without spans

  value_alike : (e : Expression Span) → set_target (erase_expression e) ≡ option_map bare_call (set_target e)
  value_alike (call s f l) = role_alike (record { function = f.text; arguments = l })
  value_alike _ = refl

  part_alike : (x : Part Span) → tell_set (bare_part x) ≡ option_map bare_call (tell_set x)
  part_alike (a_statement (assign s y assignment.Set e)) = by (bytes_eq y.text id) where
    by : (b : Bool) → option_and_then set_target (if b then Some (erase_expression e) else None) ≡ option_map bare_call (option_and_then set_target (if b then Some e else None))
    by true = value_alike e
    by false = refl
  part_alike _ = refl

  one_alike : (o : Option (Call Span)) (l : List (Call Span)) → cons_option (option_map bare_call o) (map bare_call l) ≡ map bare_call (cons_option o l)
  one_alike None l = refl
  one_alike (Some c) l = refl

  pub told_alike : (qs : List (Placed (Part Span))) → told tell_set (map bare_placed qs) ≡ map bare_call (filter_map (λ (q : Placed (Part Span)). tell_set q.it) qs)
  told_alike [] = refl
  told_alike (q ∷ qs) =
      ap (λ o. cons_option o (told tell_set (map bare_placed qs))) (part_alike q.it) ∙ ap (cons_option (option_map bare_call (tell_set q.it))) (told_alike qs)
      ∙ one_alike (tell_set q.it) (filter_map (λ (r : Placed (Part Span)). tell_set r.it) qs)

  -- ---- where it is set

  -- an assignment of the variable
  data Sets (e : Expression Span) : Part Span → Type 0 where
    sets : (s : Span) (x : Name Span) → bytes_eq x.text id ≡ true → Sets e (a_statement (assign s x assignment.Set e))

  sets_it : (x : Part Span) (e : Expression Span) → part_set_to id x ≡ Some e → Sets e x
  sets_it (a_statement (assign s y assignment.Set f)) e is = by (bytes_eq y.text id) refl is where
    by : (b : Bool) → bytes_eq y.text id ≡ b → (if b then Some f else None) ≡ Some e → Sets e (a_statement (assign s y assignment.Set f))
    by true named same = subst (λ g. Sets g (a_statement (assign s y assignment.Set f))) (some-injective f e same) (sets s y named)
    by false named same = absurd cc
  sets_it _ e is = absurd cc

  module _ (p : Project Span) where
    pub record SetAt (q : Placed (Call Span)) : Type 0 where
      pub part : Placed (Part Span)
      pub value : Expression Span
      pub stands : InProject 0 p part
      pub is_set : part_set_to id part.it ≡ Some value
      pub is_place : q.place ≡ child part.place 0
      pub is_call : call_of value ≡ Some q.it

    record ValueSet (v : Placed (Expression Span)) (at : CallRef) : Type 0 where
      part : Placed (Part Span)
      stands : InProject 0 p part
      is_set : part_set_to id part.it ≡ Some v.it
      is_place : at ≡ part.place

    abbrev Given : Placed (Expression Span) → Type 0
    Given v = ValueSet v v.place

    record Set (v : Placed (Expression Span)) : Type 0 where
      given : Placed (Expression Span)
      is : v ≡ value_of_assignment given
      set : Given given

    all_moved : (vs : List (Placed (Expression Span))) → Every Given vs → Every Set (map value_of_assignment vs)
    all_moved [] every = tt
    all_moved (v ∷ vs) every = (record { given = v; is = refl; set = every.0 }, all_moved vs every.1)

    call_set : (v : Placed (Expression Span)) (c : Call Span) → Set v → call_of v.it ≡ Some c → SetAt (placed v.place c)
    call_set v c s is = record {
      part = s.set.part;
      value = v.it;
      stands = s.set.stands;
      is_set = s.set.is_set ∙ ap (λ (u : Placed (Expression Span)). Some u.it) (sym s.is);
      is_place = ap (λ (u : Placed (Expression Span)). u.place) s.is ∙ ap (λ q. child q 0) s.set.is_place;
      is_call = is;
    }

    role_set : (q : Placed (Call Span)) (c : Call Span) → SetAt q → with_role role.Target q.it ≡ Some c → SetAt (placed q.place c)
    role_set q c at is = by (has_role role.Target q.it) is where
      by : (b : Bool) → (if b then Some q.it else None) ≡ Some c → SetAt (placed q.place c)
      by true same = subst (λ d. SetAt (placed q.place d)) (some-injective q.it c same) at
      by false same = absurd cc

    pub all_set : (qs : List (Placed (Part Span))) → Every (InProject 0 p) qs → Every SetAt (set_targets qs)
    all_set qs all =
        every_chosen SetAt SetAt (with_role role.Target) role_set (all_chosen call_of (values_among qs id))
        (every_chosen Set SetAt call_of call_set (values_among qs id)
        (all_moved (all_chosen (part_set_to id) qs)
        (every_chosen (InProject 0 p) Given (part_set_to id) (λ q v stands is. record { part = q; stands = stands; is_set = is; is_place = refl }) qs all)))

  -- ---- its statement tells of the target

  pub record SetTells (s : Statement Nowhere) : Type 0 where
    pub first : Call Nowhere
    pub more : List (Call Nowhere)
    pub is : told tell_set (parts_of_statement (place 0 []) s) ≡ first ∷ more

  of_sets : (e : Expression Span) (c : Call Span) → call_of e ≡ Some c → with_role role.Target c ≡ Some c → (x : Part Span) → Sets e x → (s : Statement Span) → any x ≡ syntax.a_statement s → SetTells (erase_statement s)
  of_sets e c is has x (sets t y named) s same =
      let same_statement : assign t y assignment.Set e ≡ s = cc in
      let value : set_target (erase_expression e) ≡ Some (bare_call c) = value_alike e ∙ ap (λ o. option_map bare_call (option_and_then (with_role role.Target) o)) is ∙ ap (option_map bare_call) has in
      let more = told tell_set (parts_of_expression (place 0 (0 ∷ [])) (erase_expression e)) in
      let one : tell_set (a_statement (erase_statement (assign t y assignment.Set e))) ≡ Some (bare_call c) = ap (λ b. option_and_then set_target (if b then Some (erase_expression e) else None)) named ∙ value in
      subst (λ u. SetTells (erase_statement u)) same_statement (record { first = bare_call c; more = more; is = ap (λ o. cons_option o more) one })

  pub set_tells : (p : Project Span) (c : Placed (Call Span)) → SetAt p c → with_role role.Target c.it ≡ Some c.it → (line : StatementPlace) → LineOf c.place line → (f : BuildFile Span) → nth_file p line.block.file ≡ Some f
      → (s : Statement Span) → option_and_then (λ (b : BlockAt Span). statement_in b.inside line.number) (block_at f.tree line.block.path.steps) ≡ Some s → SetTells (erase_statement s)
  set_tells p c at has line l f is_file s is =
      let i = at.stands in
      let counted = i.is_number in
      let number : line.block.file ≡ i.number = omega (arith, counted, ap (λ (q : CallRef). q.file) at.is_place, l.file) in
      let same_file : f ≡ i.file = some-injective _ _ (sym is_file ∙ ap (nth_file p) number ∙ i.is_file) in
      let path : at.part.place.path.steps ≡ line.block.path.steps ++ line.number ∷ [] =
      front_of at.part.place.path.steps line.block.path.steps 0 line.number l.last (sym (ap (λ (q : CallRef). q.path.steps) at.is_place) ∙ l.path) in
      let node : any at.part.it ≡ syntax.a_statement s =
      some-injective _ _ (sym i.is_node ∙ ap₂ (λ (g : BuildFile Span) q. tree_nodes.node_at (syntax.a_block (block_of g.tree)) q) (sym same_file) path ∙ statement_node f.tree line.block.path.steps line.number s is) in
      of_sets at.value c.it at.is_call has at.part.it (sets_it at.part.it at.value at.is_set) s node
