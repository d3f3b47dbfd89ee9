-- A slot that keys name is there: its value, or the list to which its key would be added.
use Rattle.std.proofs.Common.{◌≡◌, ℕ, zero, suc, ◌+◌, List, [], ◌∷◌, ◌++◌, Some, None, Option, Result, Ok, Err, refl, ap, ◌∙◌, subst, arith}
use Rattle.std.specs.Prelude.{option_map, option_and_then}
use Rattle.meson_lex.specs.declared.kinds.Span.{Span}
use Rattle.meson_syntax.specs.Children.{Any, an_expression, argument_parts, arguments_parts}
use Rattle.meson_syntax.specs.inside.Children.{expression_parts}
use Rattle.meson_syntax.specs.Paths.{nth}
use Rattle.meson_syntax.specs.Tree.{Expression, array, dictionary, call, Argument, plain, named, pair, Arguments, no_arguments, argument, argument_list, listing}
use Rattle.meson_syntax.proofs.parsing.Steps.{some-injective}
use Rattle.meson_calls.specs.declared.call.CallRef.{CallRef}
use Rattle.meson_calls.specs.Parts.{argument_child_count}
use Rattle.meson_calls.specs.Project.{Project, child, expression_at}
use Rattle.meson_calls.proofs.ExpressionsAt.{child_stands}
use Rattle.meson_calls.specs.declared.refusal.Refusal.{Refusal}
use Rattle.meson_places.specs.declared.slots.Slot.{Slot}
use Rattle.meson_places.specs.declared.slots.Slot.TheVariants as slot
use Rattle.meson_places.specs.Changes.{slot_value}
use Rattle.meson_places.specs.Laws.{SlotIsThere, SlotsAreThere}
use Rattle.meson_places.specs.Slots.{Child, absent_slot, at_number, child_of, elements_in, in_child, nth_child, number_in, slot_from, slot_in}

-- ---- the value of an element is a child of its list's expression

record IsPart (parts : List (Any Span)) (before : ℕ) (c : Child Span) : Type 0 where
  step : ℕ
  is_number : c.number ≡ before + step
  is_value : nth parts step ≡ Some (an_expression c.value)

first : (before : ℕ) (x : Argument Span) (more : List (Any Span)) (c : Child Span) → child_of before x ≡ c → IsPart (argument_parts x ++ more) before c
first before (plain e) more c is = subst (IsPart (an_expression e ∷ more) before) is (record { step = 0; is_number = omega arith; is_value = refl })
first before (named s x e) more c is = subst (IsPart (an_expression e ∷ more) before) is (record { step = 0; is_number = omega arith; is_value = refl })
first before (pair s k v) more c is = subst (IsPart (an_expression k ∷ an_expression v ∷ more) before) is (record { step = 1; is_number = refl; is_value = refl })

later : (before : ℕ) (x : Argument Span) (more : List (Any Span)) (c : Child Span) → IsPart more (before + argument_child_count x) c → IsPart (argument_parts x ++ more) before c
later before (plain e) more c p = let is : c.number ≡ before + suc p.step = omega (arith, p.is_number) in record { step = suc p.step; is_number = is; is_value = p.is_value }
later before (named s x e) more c p = let is : c.number ≡ before + suc p.step = omega (arith, p.is_number) in record { step = suc p.step; is_number = is; is_value = p.is_value }
later before (pair s k v) more c p = let is : c.number ≡ before + suc (suc p.step) = omega (arith, p.is_number) in record { step = suc (suc p.step); is_number = is; is_value = p.is_value }

part_of : (list : Arguments Span) (before n : ℕ) (c : Child Span) → nth_child before (argument_list list) n ≡ Some c → IsPart (arguments_parts list) before c
part_of no_arguments before n c is = absurd (let none : ⊥ = cc in none)
part_of (argument x more) before zero c is = first before x (arguments_parts more) c (some-injective (child_of before x) c is)
part_of (argument x more) before (suc n) c is = later before x (arguments_parts more) c (part_of more (before + argument_child_count x) n c is)

listed : (list : Arguments Span) (n : ℕ) (c : Child Span) → nth_child 0 (argument_list list) n ≡ Some c → nth (arguments_parts list) c.number ≡ Some (an_expression c.value)
listed list n c is =
    let p = part_of list 0 n c is in
    let same : c.number ≡ p.step = omega (arith, p.is_number) in
    ap (nth (arguments_parts list)) same ∙ p.is_value

pub value_is_part : (e : Expression Span) (n : ℕ) (c : Child Span) → nth_child 0 (elements_in e) n ≡ Some c → nth (expression_parts e) c.number ≡ Some (an_expression c.value)
value_is_part (call s f (listing t trailing list)) n c is = listed list n c is
value_is_part (array (listing t trailing list)) n c is = listed list n c is
value_is_part (dictionary (listing t trailing list)) n c is = listed list n c is
value_is_part _ n c is = absurd (let none : ⊥ = cc in none)

-- ---- one key after another

ok_same : (s t : Slot) (r : Result Slot Refusal) → r ≡ Ok s → r ≡ Ok t → s ≡ t
ok_same s t r one two = cc

module _ (p : Project Span) where
  there : (at_ : CallRef) (e : Expression Span) (here : Slot) (keys : List (List ℕ)) → expression_at p at_ ≡ Some e → SlotIsThere p here → (s : Slot) → slot_in at_ e here keys ≡ Ok s → SlotIsThere p s
  there at_ e here [] stands is s h = subst (SlotIsThere p) (ok_same here s (Ok here) refl h) is
  there at_ e here (key ∷ keys) stands is s h = go (number_in key e) refl h (λ n c value above t i. there (child at_ c.number) c.value (slot.Element at_ n) keys value above t i)
    where
      absent : (ks : List (List ℕ)) → number_in key e ≡ Ok None → absent_slot at_ key ks ≡ Ok s → SlotIsThere p s
      absent [] none i = subst (SlotIsThere p) (ok_same (slot.Absent at_ key) s (Ok (slot.Absent at_ key)) refl i) (e, stands, none)
      absent (k ∷ more) none i = absurd (let no_more : ⊥ = cc in no_more)

      below : (n : ℕ) (o : Option (Child Span)) → nth_child 0 (elements_in e) n ≡ o
          → in_child key (λ c. slot_in (child at_ c.number) c.value (slot.Element at_ n) keys) o ≡ Ok s
          → ((m : ℕ) (c : Child Span) → expression_at p (child at_ c.number) ≡ Some c.value → SlotIsThere p (slot.Element at_ m) → (t : Slot)
          → slot_in (child at_ c.number) c.value (slot.Element at_ m) keys ≡ Ok t → SlotIsThere p t)
          → SlotIsThere p s
      below n None gone i rest = absurd (let nothing : ⊥ = cc in nothing)
      below n (Some c) found i rest =
          let value = child_stands p at_ e stands c.number c.value (value_is_part e n c found) in
          let held : slot_value p (slot.Element at_ n) ≡ Some c.value =
          ap (λ o. option_map (λ (x : Child Span). x.value) (option_and_then (λ y. nth_child 0 (elements_in y) n) o)) stands ∙ ap (option_map (λ (x : Child Span). x.value)) found in
          rest n c value (c.value, held) s i

      go : (r : Result (Option ℕ) Refusal) → number_in key e ≡ r
          → at_number (absent_slot at_ key keys) (λ n. in_child key (λ c. slot_in (child at_ c.number) c.value (slot.Element at_ n) keys) (nth_child 0 (elements_in e) n)) r ≡ Ok s
          → ((m : ℕ) (c : Child Span) → expression_at p (child at_ c.number) ≡ Some c.value → SlotIsThere p (slot.Element at_ m) → (t : Slot)
          → slot_in (child at_ c.number) c.value (slot.Element at_ m) keys ≡ Ok t → SlotIsThere p t)
          → SlotIsThere p s
      go (Err f) number i rest = absurd (let nothing : ⊥ = cc in nothing)
      go (Ok None) number i rest = absent keys number i
      go (Ok (Some n)) number i rest = below n (nth_child 0 (elements_in e) n) refl i rest

pub slots_are_there : SlotsAreThere
slots_are_there p c keys s h = go (expression_at p c) refl h
  where
    go : (o : Option (Expression Span)) → expression_at p c ≡ o → slot_from c keys o ≡ Ok s → SlotIsThere p s
    go None is i = absurd (let nothing : ⊥ = cc in nothing)
    go (Some e) is i = there p c e (slot.Whole c) keys is (e, is) s i
