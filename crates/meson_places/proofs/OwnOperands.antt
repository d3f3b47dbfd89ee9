-- Of a sum too, what is changed for a name is the value of a variable that nobody else reads.
use Rattle.std.proofs.Common.{◌≡◌, true, false, List, [], ◌∷◌, Option, Some, None, Result, Ok, Err, refl, sym, ap, ◌∙◌, subst, inl, inr}
use Rattle.std.specs.Prelude.{Bool, ◌⊎◌, if◌then◌else◌, option_and_then}
use Rattle.std.specs.List.{filter_map}
use Rattle.std.proofs.lemmas.Bool.{and_parts}
use Rattle.meson_lex.specs.declared.kinds.Span.{Span}
use Rattle.meson_splice.specs.declared.file_set.File.{File}
use Rattle.meson_splice.specs.Patch.{then_ok}
use Rattle.meson_calls.specs.declared.call.CallRef.{CallRef}
use Rattle.meson_calls.specs.declared.refusal.Refusal.{Refusal}
use Rattle.meson_calls.specs.declared.refusal.Refusal.TheVariants.{Shared}
use Rattle.meson_calls.specs.Loading.{Loaded, project}
use Rattle.meson_calls.specs.Project.{Project}
use Rattle.meson_steps.specs.declared.argument.ValueChange.{ValueChange}
use Rattle.meson_steps.specs.declared.argument.ValueChange.TheVariants as change
use Rattle.meson_steps.specs.declared.given.Given.{Given}
use Rattle.meson_places.specs.declared.slots.Slot.{Slot}
use Rattle.meson_places.specs.declared.slots.Slot.TheVariants as slot
use Rattle.meson_places.specs.Behind.{Behind, first_that, gains, has_lists, or_first, says_all_at, says_one_at, slot_at_value, slot_behind}
use Rattle.meson_places.specs.BehindLaws.{FollowsOwnValue, IsBehind}
use Rattle.meson_places.specs.Changes.{slot_place}
use Rattle.meson_places.specs.Operands.{behind_at, gaining_among, gaining_at, losing_at, operand_value, operand_value_of, operands_at, own_value, owned_value, says_behind, value_if_own}
use Rattle.meson_places.specs.Uses.{is_read_once}
use Rattle.meson_places.specs.ValueLists.{last_of}
use Rattle.meson_places.proofs.Found.{Among, contained, given_by}
use Rattle.meson_places.proofs.OwnValues.{changes_own_value, is_behind, owned_by}

-- ---- the first place that passes a test

pub first_among : {X : Type 0} (test : X → Bool) (xs : List X) (x : X) → first_that test xs ≡ Some x → (test x ≡ true) × Among xs x
first_among test [] x is = absurd (let no : ⊥ = cc in no)
first_among {X} test (y ∷ ys) x is = go (test y) refl is (first_among test ys x)
  where
    later : (test x ≡ true) × Among ys x → (test x ≡ true) × Among (y ∷ ys) x
    later k = (k.0, inr k.1)

    go : (b : Bool) → test y ≡ b → (if b then Some y else first_that test ys) ≡ Some x → (first_that test ys ≡ Some x → (test x ≡ true) × Among ys x) → (test x ≡ true) × Among (y ∷ ys) x
    go true passes h rest = let same : y ≡ x = cc in (ap test (sym same) ∙ passes, inl same)
    go false passes h rest = later (rest h)

-- ---- the last place

last_among : {X : Type 0} (xs : List X) (x : X) → last_of xs ≡ Some x → Among xs x
last_among [] x is = absurd (let no : ⊥ = cc in no)
last_among (y ∷ []) x is = inl (let same : y ≡ x = cc in same)
last_among (y ∷ z ∷ more) x is = inr (last_among (z ∷ more) x is)

-- ---- the value of an operand

module _ (l : Loaded) (s : Slot) (sum : CallRef) (is_sum : slot_place (project l) s ≡ Some sum) where
  abbrev p : Project Span
  p = project l

  abbrev fs : List File
  fs = l.files

  -- of a variable at one of them, which nothing else reads
  variable_behind : (gs : List Given) (d : CallRef) → Among (operands_at p sum) d → (b : Behind) → behind_at fs p gs d ≡ Some b → is_read_once fs p b.variable b.read_at ≡ true → IsBehind l s (slot.Whole b.value_at)
  variable_behind gs d m b at_ once =
      let i = is_behind l (slot.Whole d) gs b at_ in
      let here : Some d ≡ Some b.read_at = i.is_place in
      let same : d ≡ b.read_at = cc in
      owned_by l (slot.Whole d) s b (slot.Whole b.value_at) i
      (inr (record { sum = sum; is_sum = is_sum; is_operand = contained (operands_at p sum) b.read_at (subst (Among (operands_at p sum)) same m) })) once refl

  own_behind : (gs : List Given) (d : CallRef) → Among (operands_at p sum) d → (v : CallRef) → own_value fs p gs d ≡ Some v → IsBehind l s (slot.Whole v)
  own_behind gs d m v is = go (behind_at fs p gs d) refl is
    where
      by : (b : Behind) → behind_at fs p gs d ≡ Some b → (g : Bool) → gains fs p b ≡ g → (if g then Some b.value_at else None) ≡ Some v → IsBehind l s (slot.Whole v)
      by b at_ true gain h =
          let same : b.value_at ≡ v = cc in
          subst (λ c. IsBehind l s (slot.Whole c)) same (variable_behind gs d m b at_ (and_parts (has_lists p b.value_at) (is_read_once fs p b.variable b.read_at) gain).1)
      by b at_ false gain h = absurd (let no : ⊥ = cc in no)

      go : (o : Option Behind) → behind_at fs p gs d ≡ o → option_and_then (value_if_own fs p) o ≡ Some v → IsBehind l s (slot.Whole v)
      go None at_ h = absurd (let no : ⊥ = cc in no)
      go (Some b) at_ h = by b at_ (gains fs p b) refl h

  abbrev Owns : CallRef → Type 0
  Owns v = IsBehind l s (slot.Whole v)

  among_own : (gs : List Given) (v : CallRef) → Among (filter_map (own_value fs p gs) (operands_at p sum)) v → Owns v
  among_own gs v m = let g = given_by (own_value fs p gs) (operands_at p sum) v m in own_behind gs g.of g.is_among v g.gives

  gaining : (gs : List Given) (v : CallRef) → gaining_at fs p gs sum ≡ Some v → Owns v
  gaining gs v is = own (has_lists p sum) is
    where
      cs : List CallRef
      cs = filter_map (own_value fs p gs) (operands_at p sum)

      one : (o : Option CallRef) → first_that (says_all_at fs p gs) cs ≡ o → or_first o (last_of cs) ≡ Some v → Owns v
      one None all h = among_own gs v (last_among cs v h)
      one (Some c) all h = let same : c ≡ v = cc in among_own gs v (first_among (says_all_at fs p gs) cs v (all ∙ ap Some same)).1

      own : (b : Bool) → (if b then None else gaining_among fs p gs cs) ≡ Some v → Owns v
      own true h = absurd (let no : ⊥ = cc in no)
      own false h = one (first_that (says_all_at fs p gs) cs) refl h

  losing : (gs : List Given) (v : CallRef) → losing_at fs p gs sum ≡ Ok (Some v) → Owns v
  losing gs v is = own (says_one_at fs p gs sum) is
    where
      bs : List Behind
      bs = filter_map (behind_at fs p gs) (operands_at p sum)

      by : (b : Behind) → Among bs b → (r : Bool) → is_read_once fs p b.variable b.read_at ≡ r → (if r then Ok (Some b.value_at) else Err (Shared b.variable)) ≡ Ok (Some v) → Owns v
      by b m true once h =
          let g = given_by (behind_at fs p gs) (operands_at p sum) b m in
          let same : b.value_at ≡ v = cc in
          subst Owns same (variable_behind gs g.of g.is_among b g.gives once)
      by b m false once h = absurd (let no : ⊥ = cc in no)

      one : (o : Option Behind) → first_that (says_behind fs p gs) bs ≡ o → owned_value fs p o ≡ Ok (Some v) → Owns v
      one None found h = absurd (let no : ⊥ = cc in no)
      one (Some b) found h = by b (first_among (says_behind fs p gs) bs b found).1 (is_read_once fs p b.variable b.read_at) refl h

      own : (b : Bool) → (if b then Ok None else owned_value fs p (first_that (says_behind fs p gs) bs)) ≡ Ok (Some v) → Owns v
      own true h = absurd (let no : ⊥ = cc in no)
      own false h = one (first_that (says_behind fs p gs) bs) refl h

  value_at : (c : ValueChange) (v : CallRef) → operand_value_of fs p c (Some sum) ≡ Ok (Some v) → Owns v
  value_at (change.Add gs) v is = let found : gaining_at fs p gs sum ≡ Some v = cc in gaining gs v found
  value_at (change.AddSorted gs) v is = let found : gaining_at fs p gs sum ≡ Some v = cc in gaining gs v found
  value_at (change.AddAfter g gs) v is = losing (g ∷ []) v is
  value_at (change.Remove gs) v is = losing gs v is
  value_at (change.Replace old new) v is = losing (old ∷ []) v is
  value_at (change.Set g) v is = absurd (let no : ⊥ = cc in no)
  value_at (change.SetAll gs) v is = absurd (let no : ⊥ = cc in no)
  value_at change.Delete v is = absurd (let no : ⊥ = cc in no)

operand_behind : (l : Loaded) (c : ValueChange) (s : Slot) (v : CallRef) → operand_value l.files (project l) c s ≡ Ok (Some v) → IsBehind l s (slot.Whole v)
operand_behind l c s v is = go (slot_place (project l) s) refl is
  where
    go : (o : Option CallRef) → slot_place (project l) s ≡ o → operand_value_of l.files (project l) c o ≡ Ok (Some v) → IsBehind l s (slot.Whole v)
    go None at_ h = absurd (let no : ⊥ = cc in no)
    go (Some sum) at_ h = value_at l s sum at_ c v h

-- ---- the slot that is changed

pub follows_own_value : FollowsOwnValue
follows_own_value l c s t is = go (operand_value l.files (project l) c s) refl is
  where
    go : (r : Result (Option CallRef) Refusal) → operand_value l.files (project l) c s ≡ r → then_ok r (slot_at_value (slot_behind l.files (project l) c s)) ≡ Ok t → (t ≡ s) ⊎ IsBehind l s t
    go (Err e) at_ h = absurd (let no : ⊥ = cc in no)
    go (Ok None) at_ h = changes_own_value l c s t h
    go (Ok (Some v)) at_ h = let same : slot.Whole v ≡ t = cc in inr (subst (IsBehind l s) same (operand_behind l c s v at_))
