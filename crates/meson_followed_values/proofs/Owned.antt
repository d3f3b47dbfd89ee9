-- What is changed for a slot is read by nobody else, and nothing is forgotten.
use Rattle.std.proofs.Common.{◌≡◌, ℕ, true, false, List, [], ◌∷◌, ◌++◌, Option, Some, None, Result, Ok, Err, refl, sym, ap, ◌∙◌, subst, inl, inr}
use Rattle.std.specs.Prelude.{Bool, ◌⊎◌, ◌&&◌, filter, if◌then◌else◌, option_and_then, option_map}
use Rattle.std.specs.List.{Contains, filter_map, list_all, list_any}
use Rattle.std.proofs.lemmas.Bool.{and_parts}
use Rattle.meson_lex.specs.declared.kinds.Span.{Span}
use Rattle.meson_splice.specs.declared.file_set.File.{File}
use Rattle.meson_splice.specs.Files.{bytes_at}
use Rattle.meson_splice.specs.Patch.{then_ok}
use Rattle.meson_syntax.specs.Tree.{Expression}
use Rattle.meson_calls.specs.declared.call.CallRef.{CallRef}
use Rattle.meson_calls.specs.declared.refusal.Refusal.{Refusal}
use Rattle.meson_calls.specs.declared.refusal.Refusal.TheVariants.{Shared}
use Rattle.meson_calls.specs.Project.{Placed, Project, expression_at, placed}
use Rattle.meson_calls.specs.Roles.{places}
use Rattle.meson_following.specs.Flows.{known_at}
use Rattle.meson_following.specs.Makers.{Known, Made, Maker, is_same_place}
use Rattle.meson_following.specs.Reads.{reads, sees}
use Rattle.meson_steps.specs.declared.given.Given.{Given}
use Rattle.meson_places.specs.declared.slots.Slot.{Slot}
use Rattle.meson_places.specs.Behind.{first_that, has_lists, or_first, says_all_at, says_one_at, variable_of}
use Rattle.meson_places.specs.Changes.{slot_place}
use Rattle.meson_places.specs.Equality.{says}
use Rattle.meson_places.specs.Operands.{gaining_among, operands_at}
use Rattle.meson_places.specs.ValueLists.{last_of}
use Rattle.meson_places.proofs.Apart.{Pairs}
use Rattle.meson_places.proofs.Found.{Among, contained, given, given_by, kept}
use Rattle.meson_places.proofs.OwnOperands.{first_among}
use Rattle.meson_places.proofs.Refused.{ok_then}
use Rattle.meson_followed_values.specs.declared.variables.Variable.{Variable}
use Rattle.meson_followed_values.specs.Choices.{all_owned, each_once, first_of, gaining_at, gaining_value, gained, gaining_values, gains, losing_at, owned_values, said, saying_values, says_one}
use Rattle.meson_followed_values.specs.Effects.{Gains, IsFollowed, IsVariableOf, NobodyElse}
use Rattle.meson_followed_values.specs.Followed.{losing, losing_in}
use Rattle.meson_followed_values.specs.Laws.{AddsToOwnValue, LosesEachValue, LosesOwnValues}
use Rattle.meson_followed_values.specs.Makers.{is_read_here, made_by, makers_of, read_at, variable_at, variable_in, variables_at}
use Rattle.meson_followed_values.proofs.EachOnce.{Differ, once_among, once_differ, once_has}
use Rattle.meson_followed_values.proofs.Places.{all_of, among_left, among_right, is_one, last_among, map_among, passes, same_place, within}

-- ---- nobody else

pub nobody_else : (p : Project Span) (v : Variable) (c : CallRef) → is_read_here p v c ≡ true → NobodyElse p v c
nobody_else p v c here r there seen =
    let one = kept (sees (c ∷ [])) (reads p v.name) r (within (reads p v.name) r there) seen in
    let at_ = map_among (λ (x : Placed (Known Span)). x.place) (filter (sees (c ∷ [])) (reads p v.name)) r one in
    sym (same_place v.read_at r.place (passes (is_same_place v.read_at) (places (filter (sees (c ∷ [])) (reads p v.name))) r.place here at_))

-- ---- makers

pub record IsMaker (p : Project Span) (v : Variable) (m : Maker Span) : Type 0 where
  pub known : Made Span
  pub is_known : known_at p v.name v.read_at ≡ Some known
  pub is_among : Among known.makers m

pub maker_is : (p : Project Span) (v : Variable) (m : Maker Span) → Among (makers_of p v) m → IsMaker p v m
maker_is p v m among = go (known_at p v.name v.read_at) refl among
  where
    go : (o : Known Span) → known_at p v.name v.read_at ≡ o → Among (made_by o) m → IsMaker p v m
    go None is n = absurd n
    go (Some k) is n = record { known = k; is_known = is; is_among = n }

given_if : (b : Bool) (c d : CallRef) → (if b then Some c else None) ≡ Some d → (b ≡ true) × (c ≡ d)
given_if true c d is = (refl, let same : c ≡ d = cc in same)
given_if false c d is = absurd (let no : ⊥ = cc in no)

-- the maker whose value says what is sought
pub maker_said : (files : List File) (p : Project Span) (gs : List Given) (v : Variable) (d : CallRef) → Among (saying_values files p gs v) d
    → (m : Maker Span) × Among (makers_of p v) m × (m.value.place ≡ d)
maker_said files p gs v d m =
    let g = given_by (said files p gs) (makers_of p v) d m in
    (g.of, g.is_among, (given_if (says_one files p gs g.of.value.place) g.of.value.place d g.gives).1)

-- ---- variables

record IsRead (p : Project Span) (q : CallRef) (v : Variable) : Type 0 where
  read : Expression Span
  is_read : expression_at p q ≡ Some read
  is_variable : variable_of read ≡ Some v.name
  is_at : v.read_at ≡ q

module _ (files : List File) (p : Project Span) (gs : List Given) where
  read_there : (q : CallRef) (v : Variable) → variable_at files p gs q ≡ Some v → IsRead p q v
  read_there q v is = go (expression_at p q) refl is
    where
      named : (e : Expression Span) → expression_at p q ≡ Some e → (n : Option (List ℕ)) → variable_of e ≡ n → option_map (read_at q) n ≡ Some v → IsRead p q v
      named e at_ None none h = absurd (let no : ⊥ = cc in no)
      named e at_ (Some x) one h =
          let same : read_at q x ≡ v = cc in
          subst (IsRead p q) same (record { read = e; is_read = at_; is_variable = one; is_at = refl })

      unsaid : (e : Expression Span) → expression_at p q ≡ Some e → (b : Bool) → (if b then None else option_map (read_at q) (variable_of e)) ≡ Some v → IsRead p q v
      unsaid e at_ true h = absurd (let no : ⊥ = cc in no)
      unsaid e at_ false h = named e at_ (variable_of e) refl h

      go : (o : Option (Expression Span)) → expression_at p q ≡ o → option_and_then (variable_in files gs) (option_map (placed q) o) ≡ Some v → IsRead p q v
      go None at_ h = absurd (let no : ⊥ = cc in no)
      go (Some e) at_ h = unsaid e at_ (list_any (λ g. says (bytes_at q.file files) g e) gs) h

  module _ (s : Slot) (c : CallRef) (is_value : slot_place p s ≡ Some c) where
    variable_of_slot : (v : Variable) → Among (variables_at files p gs c) v → IsVariableOf p s v
    variable_of_slot v m =
        let g = given_by (variable_at files p gs) (c ∷ operands_at p c) v m in
        let r = read_there g.of v g.gives in
        record {
          value_at = c;
          is_value = is_value;
          is_part = part g.of r.is_at g.is_among;
          read = r.read;
          is_read = ap (expression_at p) r.is_at ∙ r.is_read;
          is_variable = r.is_variable;
        }
      where
        part : (q : CallRef) → v.read_at ≡ q → (c ≡ q) ⊎ Among (operands_at p c) q → (v.read_at ≡ c) ⊎ Contains (operands_at p c) v.read_at
        part q at_ (inl same) = inl (at_ ∙ sym same)
        part q at_ (inr n) = inr (subst (Contains (operands_at p c)) (sym at_) (contained (operands_at p c) q n))

    followed : (v : Variable) → Among (variables_at files p gs c) v → (m : Maker Span) → Among (makers_of p v) m → (d : CallRef) → m.value.place ≡ d → is_read_here p v d ≡ true → IsFollowed p s d
    followed v among m made d at_ here =
        let k = maker_is p v m made in
        record {
          variable = v;
          is_variable = variable_of_slot v among;
          known = k.known;
          is_known = k.is_known;
          maker = m;
          is_maker = contained k.known.makers m k.is_among;
          is_place = at_;
          nobody_else = nobody_else p v d here;
        }

    -- ---- values that gain

    gains_there : (v : Variable) → Among (variables_at files p gs c) v → (d : CallRef) → Among (gaining_values p v) d → Gains p s d
    unfolding followed
    gains_there v among d m =
        let g = given_by (gained p v) (makers_of p v) d m in
        let k = given_if (gains p v g.of) g.of.value.place d g.gives in
        let one = and_parts g.of.sure (has_lists p g.of.value.place && is_read_here p v g.of.value.place) k.0 in
        let two = and_parts (has_lists p g.of.value.place) (is_read_here p v g.of.value.place) one.1 in
        record {
          followed = followed v among g.of g.is_among d k.1 (sym (ap (is_read_here p v) k.1) ∙ two.1);
          is_sure = one.0;
          has_list = sym (ap (has_lists p) k.1) ∙ two.0;
        }

    of_variable : (v : Variable) (d : CallRef) → gaining_value files p gs v ≡ Some d → Among (gaining_values p v) d
    of_variable v d is = go (first_that (says_all_at files p gs) (gaining_values p v)) refl is
      where
        first : (cs : List CallRef) → first_of cs ≡ Some d → Among cs d
        first [] h = absurd (let no : ⊥ = cc in no)
        first (e ∷ es) h = inl (let same : e ≡ d = cc in same)

        go : (o : Option CallRef) → first_that (says_all_at files p gs) (gaining_values p v) ≡ o → or_first o (first_of (gaining_values p v)) ≡ Some d → Among (gaining_values p v) d
        go None found h = first (gaining_values p v) h
        go (Some e) found h = let same : e ≡ d = cc in (first_among (says_all_at files p gs) (gaining_values p v) d (found ∙ ap Some same)).1

    gains_at : (d : CallRef) → gaining_at files p gs c ≡ Some d → Gains p s d
    gains_at d is = own (has_lists p c) is
      where
        cs : List CallRef
        cs = filter_map (gaining_value files p gs) (variables_at files p gs c)

        one_of_them : Among cs d → Gains p s d
        one_of_them m =
            let g = given_by (gaining_value files p gs) (variables_at files p gs c) d m in
            gains_there g.of g.is_among d (of_variable g.of d g.gives)

        one : (o : Option CallRef) → first_that (says_all_at files p gs) cs ≡ o → or_first o (last_of cs) ≡ Some d → Gains p s d
        one None found h = one_of_them (last_among cs d h)
        one (Some e) found h = let same : e ≡ d = cc in one_of_them (first_among (says_all_at files p gs) cs d (found ∙ ap Some same)).1

        own : (b : Bool) → (if b then None else gaining_among files p gs cs) ≡ Some d → Gains p s d
        own true h = absurd (let no : ⊥ = cc in no)
        own false h = one (first_that (says_all_at files p gs) cs) refl h

  -- ---- values that lose

  pub record Owned (vs : List Variable) (d : CallRef) : Type 0 where
    pub of : Variable
    pub is_among : Among vs of
    pub is_said : Among (saying_values files p gs of) d
    pub is_own : is_read_here p of d ≡ true

  module _ (v : Variable) (ds : List CallRef) (is : owned_values files p gs v ≡ Ok ds) where
    owned_how : (list_all (is_read_here p v) (saying_values files p gs v) ≡ true) × (saying_values files p gs v ≡ ds)
    owned_how = go (list_all (is_read_here p v) (saying_values files p gs v)) refl is
      where
        refused : Result (List CallRef) Refusal
        refused = Err (Shared v.name)

        go : (b : Bool) → list_all (is_read_here p v) (saying_values files p gs v) ≡ b → (if b then Ok (saying_values files p gs v) else refused) ≡ Ok ds
            → (list_all (is_read_here p v) (saying_values files p gs v) ≡ true) × (saying_values files p gs v ≡ ds)
        go true all h = (all, let same : saying_values files p gs v ≡ ds = cc in same)
        go false all h = absurd (let no : ⊥ = cc in no)

  -- of several variables: those of the first, and those of the others
  record Parts (v : Variable) (vs : List Variable) (cs : List CallRef) : Type 0 where
    first : List CallRef
    is_first : owned_values files p gs v ≡ Ok first
    rest : List CallRef
    is_rest : all_owned files p gs vs ≡ Ok rest
    are : first ++ rest ≡ cs

  parts_of : (v : Variable) (vs : List Variable) (cs : List CallRef) → all_owned files p gs (v ∷ vs) ≡ Ok cs → Parts v vs cs
  parts_of v vs cs is =
      let a = ok_then (owned_values files p gs v) (λ ds. then_ok (all_owned files p gs vs) (λ more. Ok (ds ++ more))) cs is in
      let b = ok_then (all_owned files p gs vs) (λ more. Ok (a.0 ++ more)) cs a.2 in
      let joined : Ok (a.0 ++ b.0) ≡ Ok cs = b.2 in
      record { first = a.0; is_first = a.1; rest = b.0; is_rest = b.1; are = let same : a.0 ++ b.0 ≡ cs = cc in same }

  either_part : (xs ys : List CallRef) (d : CallRef) → Among (xs ++ ys) d → Among xs d ⊎ Among ys d
  either_part [] ys d m = inr m
  either_part (x ∷ xs) ys d (inl same) = inl (inl same)
  either_part (x ∷ xs) ys d (inr m) = later (either_part xs ys d m)
    where
      later : Among xs d ⊎ Among ys d → Among (x ∷ xs) d ⊎ Among ys d
      later (inl n) = inl (inr n)
      later (inr n) = inr n

  pub owned_by_one : (vs : List Variable) (cs : List CallRef) → all_owned files p gs vs ≡ Ok cs → (d : CallRef) → Among cs d → Owned vs d
  owned_by_one [] cs is d m = absurd (let none : [] ≡ cs = cc in subst (λ es. Among es d) (sym none) m)
  owned_by_one (v ∷ vs) cs is d m =
      let q = parts_of v vs cs is in
      go q.first q.is_first q.rest (either_part q.first q.rest d (subst (λ es. Among es d) (sym q.are) m)) (owned_by_one vs q.rest q.is_rest d)
    where
      go : (first : List CallRef) → owned_values files p gs v ≡ Ok first → (rest : List CallRef) → Among first d ⊎ Among rest d → (Among rest d → Owned vs d) → Owned (v ∷ vs) d
      go first is_first rest (inl n) more =
          let h = owned_how v first is_first in
          let here = subst (λ es. Among es d) (sym h.1) n in
          record { of = v; is_among = inl refl; is_said = here; is_own = passes (is_read_here p v) (saying_values files p gs v) d h.0 here }
      go first is_first rest (inr n) more =
          let o = more n in
          record { of = o.of; is_among = inr o.is_among; is_said = o.is_said; is_own = o.is_own }

  owned_has : (vs : List Variable) (cs : List CallRef) → all_owned files p gs vs ≡ Ok cs → (v : Variable) → Among vs v → (d : CallRef) → Among (saying_values files p gs v) d → Among cs d
  owned_has [] cs is v m d is_said = absurd m
  owned_has (w ∷ vs) cs is v m d is_said =
      let q = parts_of w vs cs is in
      subst (λ es. Among es d) q.are (go q.first q.is_first q.rest m (λ n. owned_has vs q.rest q.is_rest v n d is_said))
    where
      go : (first : List CallRef) → owned_values files p gs w ≡ Ok first → (rest : List CallRef) → (w ≡ v) ⊎ Among vs v → (Among vs v → Among rest d) → Among (first ++ rest) d
      go first is_first rest (inl same) more =
          let h = owned_how w first is_first in
          among_left first rest d (subst (λ es. Among es d) h.1 (subst (λ x. Among (saying_values files p gs x) d) (sym same) is_said))
      go first is_first rest (inr n) more = among_right first rest d (more n)

  -- where the value has no element itself that says one of them
  record Lost (c : CallRef) (cs : List CallRef) : Type 0 where
    all : List CallRef
    are_owned : all_owned files p gs (variables_at files p gs c) ≡ Ok all
    are : each_once [] all ≡ cs

  lost_how : (c : CallRef) (cs : List CallRef) → losing_at files p gs c ≡ Ok cs → (cs ≡ []) ⊎ Lost c cs
  lost_how c cs is = go (says_one_at files p gs c) is
    where
      go : (b : Bool) → (if b then Ok [] else then_ok (all_owned files p gs (variables_at files p gs c)) (λ es. Ok (each_once [] es))) ≡ Ok cs → (cs ≡ []) ⊎ Lost c cs
      go true h = inl (let same : [] ≡ cs = cc in sym same)
      go false h =
          let a = ok_then (all_owned files p gs (variables_at files p gs c)) (λ es. Ok (each_once [] es)) cs h in
          let once : Ok (each_once [] a.0) ≡ Ok cs = a.2 in
          inr (record { all = a.0; are_owned = a.1; are = let same : each_once [] a.0 ≡ cs = cc in same })

  lost_differ : (c : CallRef) (cs : List CallRef) → losing_at files p gs c ≡ Ok cs → Pairs Differ cs
  lost_differ c cs is = go (lost_how c cs is)
    where
      go : (cs ≡ []) ⊎ Lost c cs → Pairs Differ cs
      go (inl none) = subst (Pairs Differ) (sym none) tt
      go (inr o) = subst (Pairs Differ) o.are (once_differ o.all)

  pub lost_owned : (c : CallRef) (cs : List CallRef) → losing_at files p gs c ≡ Ok cs → (d : CallRef) → Among cs d → Owned (variables_at files p gs c) d
  lost_owned c cs is d m = go (lost_how c cs is)
    where
      go : (cs ≡ []) ⊎ Lost c cs → Owned (variables_at files p gs c) d
      go (inl none) = absurd (subst (λ es. Among es d) none m)
      go (inr o) = owned_by_one (variables_at files p gs c) o.all o.are_owned d (once_among [] o.all d (subst (λ es. Among es d) (sym o.are) m))

  loses_each : (c : CallRef) (cs : List CallRef) → says_one_at files p gs c ≡ false → losing_at files p gs c ≡ Ok cs → (v : Variable) → Among (variables_at files p gs c) v → (m : Maker Span) → Among (makers_of p v) m
      → says_one files p gs m.value.place ≡ true → Among cs m.value.place
  loses_each c cs unsaid is v among m made says_it =
      let vs = variables_at files p gs c in
      let a = ok_then (all_owned files p gs vs) (λ es. Ok (each_once [] es)) cs (sym (ap (λ b. if b then Ok [] else then_ok (all_owned files p gs vs) (λ es. Ok (each_once [] es))) unsaid) ∙ is) in
      let once : Ok (each_once [] a.0) ≡ Ok cs = a.2 in
      let same : each_once [] a.0 ≡ cs = cc in
      let is_said = given (said files p gs) (makers_of p v) m m.value.place made (ap (λ b. if b then Some m.value.place else None) says_it) in
      subst (λ es. Among es m.value.place) same (once_has a.0 m.value.place (owned_has vs a.0 a.1 v among m.value.place is_said))

-- ---- the laws

pub adds_to_own_value : AddsToOwnValue
adds_to_own_value files p gs s d is = go (slot_place p s) refl is
  where
    go : (o : Option CallRef) → slot_place p s ≡ o → option_and_then (gaining_at files p gs) o ≡ Some d → Gains p s d
    go None at_ h = absurd (let no : ⊥ = cc in no)
    go (Some c) at_ h = gains_at files p gs s c at_ d h

owned_followed : (files : List File) (p : Project Span) (gs : List Given) (s : Slot) (c : CallRef) → slot_place p s ≡ Some c → (d : CallRef) → Owned files p gs (variables_at files p gs c) d → IsFollowed p s d
owned_followed files p gs s c at_ d o =
    let m = maker_said files p gs o.of d o.is_said in
    followed files p gs s c at_ o.of o.is_among m.0 m.1 d m.2 o.is_own

-- what is lost for a slot is lost for the value that it has
pub lost_in : (files : List File) (p : Project Span) (gs : List Given) (s : Slot) (cs : List CallRef) → losing files p gs s ≡ Ok cs → (d : CallRef) → Among cs d
    → (c : CallRef) × (slot_place p s ≡ Some c) × Owned files p gs (variables_at files p gs c) d
lost_in files p gs s cs is d m = go (slot_place p s) refl is
  where
    go : (o : Option CallRef) → slot_place p s ≡ o → losing_in files p gs o ≡ Ok cs → (c : CallRef) × (slot_place p s ≡ Some c) × Owned files p gs (variables_at files p gs c) d
    go None at_ h = absurd (let none : [] ≡ cs = cc in subst (λ es. Among es d) (sym none) m)
    go (Some c) at_ h = (c, at_, lost_owned files p gs c cs h d m)

pub losing_differ : (files : List File) (p : Project Span) (gs : List Given) (s : Slot) (cs : List CallRef) → losing files p gs s ≡ Ok cs → Pairs Differ cs
losing_differ files p gs s cs is = go (slot_place p s) is
  where
    go : (o : Option CallRef) → losing_in files p gs o ≡ Ok cs → Pairs Differ cs
    go None h = let none : [] ≡ cs = cc in subst (Pairs Differ) none tt
    go (Some c) h = lost_differ files p gs c cs h

pub loses_own_values : LosesOwnValues
loses_own_values files p gs s cs is =
    all_of (IsFollowed p s) cs
    (λ d m. let o = lost_in files p gs s cs is d m in
    owned_followed files p gs s o.0 o.1 d o.2)

pub loses_each_value : LosesEachValue
loses_each_value files p gs c cs unsaid is v there m made says_it =
    is_one cs m.value.place
    (loses_each files p gs c cs unsaid is v (within (variables_at files p gs c) v there) m (within (makers_of p v) m made) says_it)
