-- A value without variables is changed as without following.
use Rattle.std.proofs.Common.{◌≡◌, ℕ, true, false, List, [], ◌∷◌, Option, Some, None, Ok, refl, sym, ap, ◌∙◌, inl, inr}
use Rattle.std.specs.Prelude.{Bool, ◌⊎◌, if◌then◌else◌, option_and_then, option_map}
use Rattle.std.specs.List.{Contains, cons_option, filter_map, list_any}
use Rattle.meson_lex.specs.declared.kinds.Span.{Span}
use Rattle.meson_splice.specs.declared.file_set.File.{File}
use Rattle.meson_splice.specs.Files.{bytes_at}
use Rattle.meson_splice.specs.Patch.{then_ok}
use Rattle.meson_syntax.specs.Tree.{Expression}
use Rattle.meson_calls.specs.declared.call.CallRef.{CallRef}
use Rattle.meson_calls.specs.Loading.{Loaded, project}
use Rattle.meson_calls.specs.Project.{Project, expression_at, placed}
use Rattle.meson_steps.specs.declared.argument.PlaceName.{PlaceName}
use Rattle.meson_steps.specs.declared.argument.PlaceName.TheVariants as name
use Rattle.meson_steps.specs.declared.argument.ValueChange.{ValueChange}
use Rattle.meson_steps.specs.declared.argument.ValueChange.TheVariants as change
use Rattle.meson_steps.specs.declared.argument.ValueName.{ValueName}
use Rattle.meson_steps.specs.declared.given.Given.{Given}
use Rattle.meson_places.specs.declared.slots.Slot.{Slot}
use Rattle.meson_places.specs.declared.slots.Slot.TheVariants as slot
use Rattle.meson_places.specs.AllAssigned.{assigned_saying, removed_or, replaced_or}
use Rattle.meson_places.specs.Arguments.{MayBeMade, changed_steps, one_changed, slot_steps}
use Rattle.meson_places.specs.Assignments.{assigned_value, whole_variable}
use Rattle.meson_places.specs.Behind.{added_slot, behind, behind_slot, behind_value, first_that, has_lists, placed_at, said_slot, says_one_at, slot_at_value, slot_behind, variable_of}
use Rattle.meson_places.specs.Changes.{slot_place}
use Rattle.meson_places.specs.Equality.{says}
use Rattle.meson_places.specs.Operands.{behind_at, followed_slot, gaining_among, operand_value_of, operands_at, own_value, owned_value, says_behind, value_if_own}
use Rattle.meson_places.specs.Operands as plain
use Rattle.meson_places.specs.Replacements.{exchange}
use Rattle.meson_places.proofs.Found.{Among, contained}
use Rattle.meson_followed_values.specs.Choices.{all_owned, each_once, gaining_value}
use Rattle.meson_followed_values.specs.Choices as followed
use Rattle.meson_followed_values.specs.Followed.{gaining, losing, losing_in, removed_in, replaced_in, slot_at, slot_first, steps_in}
use Rattle.meson_followed_values.specs.Laws.{HasNoVariable, PlainIsPlain}
use Rattle.meson_followed_values.specs.Makers.{read_at, variable_at, variable_in, variables_at}

-- ---- lists of which nothing is taken

none_given : {X Y : Type 0} (f : X → Option Y) (xs : List X) → ((x : X) → Among xs x → f x ≡ None) → filter_map f xs ≡ []
none_given f [] none = refl
none_given f (x ∷ xs) none = ap (λ o. cons_option o (filter_map f xs)) (none x (inl refl)) ∙ none_given f xs (λ y m. none y (inr m))

either_none : {X : Type 0} (b : Bool) (o : Option X) → o ≡ None → (if b then None else o) ≡ None
either_none true o none = refl
either_none false o none = none

-- ---- a value of which no part is a variable

module _ (fs : List File) (p : Project Span) (c : CallRef) (no : (q : CallRef) → (q ≡ c) ⊎ Among (operands_at p c) q → (x : List ℕ) → option_and_then variable_of (expression_at p q) ≡ Some x → ⊥) where
  unnamed : (q : CallRef) → (q ≡ c) ⊎ Among (operands_at p c) q → (e : Expression Span) → expression_at p q ≡ Some e → variable_of e ≡ None
  unnamed q part e at_ = go (variable_of e) refl
    where
      go : (o : Option (List ℕ)) → variable_of e ≡ o → o ≡ None
      go None is = refl
      go (Some x) is = absurd (no q part x (ap (option_and_then variable_of) at_ ∙ is))

  module _ (gs : List Given) where
    not_followed : (q : CallRef) → (q ≡ c) ⊎ Among (operands_at p c) q → variable_at fs p gs q ≡ None
    not_followed q part = go (expression_at p q) refl
      where
        go : (o : Option (Expression Span)) → expression_at p q ≡ o → option_and_then (variable_in fs gs) (option_map (placed q) o) ≡ None
        go None at_ = refl
        go (Some e) at_ = either_none (list_any (λ g. says (bytes_at q.file fs) g e) gs) (option_map (read_at q) (variable_of e)) (ap (option_map (read_at q)) (unnamed q part e at_))

    not_behind : (q : CallRef) → (q ≡ c) ⊎ Among (operands_at p c) q → behind_at fs p gs q ≡ None
    not_behind q part = go (expression_at p q) refl
      where
        go : (o : Option (Expression Span)) → expression_at p q ≡ o → option_and_then (behind_value fs p gs) (option_map (placed q) o) ≡ None
        go None at_ = refl
        go (Some e) at_ = either_none (list_any (λ g. says (bytes_at q.file fs) g e) gs) (option_and_then (behind p q) (variable_of e)) (ap (option_and_then (behind p q)) (unnamed q part e at_))

    no_variables : variables_at fs p gs c ≡ []
    no_variables = none_given (variable_at fs p gs) (c ∷ operands_at p c) each
      where
        each : (q : CallRef) → (c ≡ q) ⊎ Among (operands_at p c) q → variable_at fs p gs q ≡ None
        each q (inl same) = not_followed q (inl (sym same))
        each q (inr m) = not_followed q (inr m)

    nothing_gains : followed.gaining_at fs p gs c ≡ None
    nothing_gains =
        either_none (has_lists p c) (gaining_among fs p gs (filter_map (gaining_value fs p gs) (variables_at fs p gs c)))
        (ap (λ vs. gaining_among fs p gs (filter_map (gaining_value fs p gs) vs)) no_variables)

    nothing_loses : followed.losing_at fs p gs c ≡ Ok []
    nothing_loses = go (says_one_at fs p gs c) (ap (λ vs. then_ok (all_owned fs p gs vs) (λ cs. Ok (each_once [] cs))) no_variables)
      where
        go : (b : Bool) → then_ok (all_owned fs p gs (variables_at fs p gs c)) (λ cs. Ok (each_once [] cs)) ≡ Ok []
            → (if b then Ok [] else then_ok (all_owned fs p gs (variables_at fs p gs c)) (λ cs. Ok (each_once [] cs))) ≡ Ok []
        go true rest = refl
        go false rest = rest

    -- without following

    none_owned : filter_map (own_value fs p gs) (operands_at p c) ≡ []
    none_owned = none_given (own_value fs p gs) (operands_at p c) (λ q m. ap (option_and_then (value_if_own fs p)) (not_behind q (inr m)))

    nothing_gains_plain : plain.gaining_at fs p gs c ≡ None
    nothing_gains_plain =
        either_none (has_lists p c) (gaining_among fs p gs (filter_map (own_value fs p gs) (operands_at p c)))
        (ap (gaining_among fs p gs) none_owned)

    nothing_loses_plain : plain.losing_at fs p gs c ≡ Ok None
    nothing_loses_plain =
        go (says_one_at fs p gs c)
        (ap (λ bs. owned_value fs p (first_that (says_behind fs p gs) bs)) (none_given (behind_at fs p gs) (operands_at p c) (λ q m. not_behind q (inr m))))
      where
        go : (b : Bool) → owned_value fs p (first_that (says_behind fs p gs) (filter_map (behind_at fs p gs) (operands_at p c))) ≡ Ok None
            → (if b then Ok None else owned_value fs p (first_that (says_behind fs p gs) (filter_map (behind_at fs p gs) (operands_at p c)))) ≡ Ok None
        go true rest = refl
        go false rest = rest

-- ---- a slot whose value is not a variable, nor a sum of some

module _ (fs : List File) (p : Project Span) (s : Slot) (no : HasNoVariable p s) where
  -- what holds of the value of the slot, if one is there
  of_value : (P : Option CallRef → Type 0) → P None
      → ((c : CallRef) → ((q : CallRef) → (q ≡ c) ⊎ Among (operands_at p c) q → (x : List ℕ) → option_and_then variable_of (expression_at p q) ≡ Some x → ⊥) → P (Some c))
      → P (slot_place p s)
  of_value P empty there = go (slot_place p s) refl
    where
      part : (c q : CallRef) → (q ≡ c) ⊎ Among (operands_at p c) q → (q ≡ c) ⊎ Contains (operands_at p c) q
      part c q (inl same) = inl same
      part c q (inr m) = inr (contained (operands_at p c) q m)

      go : (o : Option CallRef) → slot_place p s ≡ o → P o
      go None at_ = empty
      go (Some c) at_ = there c (λ q m x is. no c q at_ (part c q m) x is)

  nothing_gained : (gs : List Given) → gaining fs p gs s ≡ None
  nothing_gained gs = of_value (λ o. option_and_then (followed.gaining_at fs p gs) o ≡ None) refl (λ c none. nothing_gains fs p c none gs)

  nothing_lost : (gs : List Given) → losing fs p gs s ≡ Ok []
  nothing_lost gs = of_value (λ o. losing_in fs p gs o ≡ Ok []) refl (λ c none. nothing_loses fs p c none gs)

  nothing_behind : (gs : List Given) → behind_slot fs p gs s ≡ None
  nothing_behind gs =
      of_value (λ o. option_and_then (behind_value fs p gs) (option_and_then (placed_at p) o) ≡ None) refl (λ c none. not_behind fs p c none gs c (inl refl))

  -- so a change is made to the slot itself
  added_here : (gs : List Given) → followed_slot fs p (change.Add gs) s ≡ Ok s
  added_here gs =
      ap (λ r. then_ok r (slot_at_value (slot_behind fs p (change.Add gs) s)))
      (of_value (λ q. operand_value_of fs p (change.Add gs) q ≡ Ok None) refl (λ c none. ap Ok (nothing_gains_plain fs p c none gs)))
      ∙ ap (added_slot fs p s) (nothing_behind gs)

  sorted_here : (gs : List Given) → followed_slot fs p (change.AddSorted gs) s ≡ Ok s
  sorted_here gs =
      ap (λ r. then_ok r (slot_at_value (slot_behind fs p (change.AddSorted gs) s)))
      (of_value (λ q. operand_value_of fs p (change.AddSorted gs) q ≡ Ok None) refl (λ c none. ap Ok (nothing_gains_plain fs p c none gs)))
      ∙ ap (added_slot fs p s) (nothing_behind gs)

  inserted_here : (g : Given) (gs : List Given) → followed_slot fs p (change.AddAfter g gs) s ≡ Ok s
  inserted_here g gs =
      ap (λ r. then_ok r (slot_at_value (slot_behind fs p (change.AddAfter g gs) s)))
      (of_value (λ q. operand_value_of fs p (change.AddAfter g gs) q ≡ Ok None) refl (λ c none. nothing_loses_plain fs p c none (g ∷ [])))
      ∙ ap (said_slot fs p (g ∷ []) s) (nothing_behind (g ∷ []))

  removed_here : (gs : List Given) → followed_slot fs p (change.Remove gs) s ≡ Ok s
  removed_here gs =
      ap (λ r. then_ok r (slot_at_value (slot_behind fs p (change.Remove gs) s)))
      (of_value (λ q. operand_value_of fs p (change.Remove gs) q ≡ Ok None) refl (λ c none. nothing_loses_plain fs p c none gs))
      ∙ ap (said_slot fs p gs s) (nothing_behind gs)

  replaced_here : (old new : Given) → followed_slot fs p (change.Replace old new) s ≡ Ok s
  replaced_here old new =
      ap (λ r. then_ok r (slot_at_value (slot_behind fs p (change.Replace old new) s)))
      (of_value (λ q. operand_value_of fs p (change.Replace old new) q ≡ Ok None) refl (λ c none. nothing_loses_plain fs p c none (old ∷ [])))
      ∙ ap (said_slot fs p (old ∷ []) s) (nothing_behind (old ∷ []))

-- ---- the steps

-- no assigned value is named
abbrev IsPart : ValueName → Slot → Type 0
IsPart n s = whole_variable n.place.name n.keys s ≡ None

module _ (l : Loaded) (n : ValueName) (key : List ℕ) (s : Slot) (no : HasNoVariable (project l) s) (part : IsPart n s) where
  abbrev p : Project Span
  p = project l

  -- then one value is changed
  one : (c : ValueChange) (may : MayBeMade c) → followed_slot l.files p c s ≡ Ok s → one_changed l n key c may s ≡ slot_steps l key c may s
  one c may here =
      ap (λ o. then_ok (then_ok (assigned_value l.files p n.place.folder c o) (slot_at_value (followed_slot l.files p c s))) (slot_steps l key c may)) part
      ∙ ap (λ r. then_ok r (slot_steps l key c may)) here

  removed_plain : (gs : List Given) → changed_steps l n key (change.Remove gs) tt s ≡ one_changed l n key (change.Remove gs) tt s
  removed_plain gs =
      ap (λ o. then_ok (assigned_saying l.files p n.place.folder gs o) (removed_or l key gs (one_changed l n key (change.Remove gs) tt s))) part

  replaced_plain : (old new : Given) (may : MayBeMade (change.Replace old new)) → changed_steps l n key (change.Replace old new) may s ≡ one_changed l n key (change.Replace old new) may s
  replaced_plain old new may =
      ap (λ o. then_ok (assigned_saying l.files p n.place.folder (old ∷ []) o) (replaced_or l key (exchange old new may) (one_changed l n key (change.Replace old new) may s))) part

  in_is_plain : (c : ValueChange) (may : MayBeMade c) → steps_in l key n c may s ≡ changed_steps l n key c may s
  in_is_plain (change.Add gs) may =
      ap (λ o. slot_steps l key (change.Add gs) may (slot_at s o)) (nothing_gained l.files p s no gs) ∙ sym (one (change.Add gs) may (added_here l.files p s no gs))
  in_is_plain (change.AddSorted gs) may =
      ap (λ o. slot_steps l key (change.AddSorted gs) may (slot_at s o)) (nothing_gained l.files p s no gs) ∙ sym (one (change.AddSorted gs) may (sorted_here l.files p s no gs))
  in_is_plain (change.AddAfter g gs) may =
      ap (λ r. then_ok r (λ cs. slot_steps l key (change.AddAfter g gs) may (slot_first s cs))) (nothing_lost l.files p s no (g ∷ []))
      ∙ sym (one (change.AddAfter g gs) may (inserted_here l.files p s no g gs))
  in_is_plain (change.Remove gs) may =
      ap (λ r. then_ok r (removed_in l key gs s)) (nothing_lost l.files p s no gs) ∙ sym (one (change.Remove gs) tt (removed_here l.files p s no gs)) ∙ sym (removed_plain gs)
  in_is_plain (change.Replace old new) may =
      ap (λ r. then_ok r (replaced_in l key old new may s)) (nothing_lost l.files p s no (old ∷ []))
      ∙ sym (one (change.Replace old new) may (replaced_here l.files p s no old new)) ∙ sym (replaced_plain old new may)
  in_is_plain (change.Set g) may = refl
  in_is_plain (change.SetAll gs) may = refl
  in_is_plain change.Delete may = refl

element_part : (m : PlaceName) (keys : List (List ℕ)) (list : CallRef) (k : ℕ) → whole_variable m keys (slot.Element list k) ≡ None
element_part (name.Variable x) [] list k = refl
element_part (name.Variable x) (w ∷ keys) list k = refl
element_part (name.Project x) keys list k = refl
element_part (name.Call f x) keys list k = refl
element_part (name.Line f x) keys list k = refl

absent_part : (m : PlaceName) (keys : List (List ℕ)) (list : CallRef) (k : List ℕ) → whole_variable m keys (slot.Absent list k) ≡ None
absent_part (name.Variable x) [] list k = refl
absent_part (name.Variable x) (w ∷ keys) list k = refl
absent_part (name.Project x) keys list k = refl
absent_part (name.Call f x) keys list k = refl
absent_part (name.Line f x) keys list k = refl

pub plain_is_plain : PlainIsPlain
plain_is_plain l n key c may (slot.Whole at_) free = refl
plain_is_plain l n key c may (slot.Element list k) free = in_is_plain l n key (slot.Element list k) free (element_part n.place.name n.keys list k) c may
plain_is_plain l n key c may (slot.Absent list k) free = in_is_plain l n key (slot.Absent list k) free (absent_part n.place.name n.keys list k) c may
