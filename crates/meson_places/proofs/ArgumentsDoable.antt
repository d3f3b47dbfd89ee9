-- The steps of a change of one value may be done one after another.
use Rattle.std.proofs.Common.{◌≡◌, ℕ, List, [], ◌∷◌, Option, Some, None, Result, Ok, Err, refl, subst}
use Rattle.std.specs.Prelude.{All}
use Rattle.std.specs.Str.{IsUtf8}
use Rattle.std.proofs.lemmas.List.Elements.{All-head, All-tail}
use Rattle.meson_lex.specs.declared.kinds.Span.{Span}
use Rattle.meson_splice.specs.Patch.{then_ok}
use Rattle.meson_syntax.specs.Tree.{Expression}
use Rattle.meson_calls.specs.declared.call.CallRef.{CallRef}
use Rattle.meson_calls.specs.declared.refusal.Refusal.{Refusal}
use Rattle.meson_calls.specs.Loading.{IsProject, Loaded, project}
use Rattle.meson_calls.specs.Project.{child, expression_at}
use Rattle.meson_steps.specs.ListSteps.{AreDoable}
use Rattle.meson_steps.specs.ResultLimits.{plain_trees}
use Rattle.meson_steps.specs.Steps.{Step}
use Rattle.meson_steps.specs.declared.argument.ValueChange.{ValueChange}
use Rattle.meson_steps.specs.declared.argument.ValueChange.TheVariants as change
use Rattle.meson_steps.specs.declared.argument.ValueName.{ValueName}
use Rattle.meson_steps.specs.declared.given.Given.{Given}
use Rattle.meson_places.specs.declared.slots.Slot.{Slot}
use Rattle.meson_places.specs.declared.slots.Slot.TheVariants as slot
use Rattle.meson_places.specs.AllAssigned.{all_assigned, remove_each, removed_or, replace_each, replaced_or}
use Rattle.meson_places.specs.Arguments.{MayBeMade, changed_by, changed_steps, last_key, named_steps, one_changed, slot_steps}
use Rattle.meson_places.specs.AssignedEffects.{IsNamed}
use Rattle.meson_places.specs.Assignments.{changed_slot}
use Rattle.meson_places.specs.Laws.{ArgumentStepsAreDoable, SlotIsThere}
use Rattle.meson_places.specs.Names.{the_place}
use Rattle.meson_places.specs.Replacements.{Exchange, exchange}
use Rattle.meson_places.specs.Slots.{Child, absent_slot, at_number, elements_in, in_child, nth_child, number_in, slot_from, slot_in, the_slot}
use Rattle.meson_places.specs.TargetNames.{checked_name}
use Rattle.meson_places.proofs.AllMade.{each_removed_doable, each_replaced_doable}
use Rattle.meson_places.proofs.AllPlaced.{all_there}
use Rattle.meson_places.proofs.OwnAssigned.{changed_text, changed_there, changes_one_value}
use Rattle.meson_places.proofs.Refused.{ok_then}
use Rattle.meson_places.proofs.BetweenDoable.{insert_doable}
use Rattle.meson_places.proofs.AssignedLone.{added_steps_doable, set_all_steps_doable}
use Rattle.meson_places.proofs.NewElementsDoable.{add_doable}
use Rattle.meson_places.proofs.SaidDoable.{remove_doable, replace_doable}
use Rattle.meson_places.proofs.SeveralDoable.{set_all_doable}
use Rattle.meson_places.proofs.SortedValues.{sorted_doable}
use Rattle.meson_places.proofs.SlotsDoable.{KeyIsText, delete_doable, set_within_doable}
use Rattle.meson_places.proofs.SlotsThere.{slots_are_there}

-- ---- the key of a slot

key_of : (p : CallRef) (e : Expression Span) (here : Slot) (keys : List (List ℕ)) → All IsUtf8 keys → KeyIsText here → (s : Slot) → slot_in p e here keys ≡ Ok s → KeyIsText s
key_of p e here [] all text s h = let same : here ≡ s = cc in subst KeyIsText same text
key_of p e here (key ∷ keys) all text s h = go (number_in key e) h (λ n c i. key_of (child p c.number) c.value (slot.Element p n) keys (All-tail IsUtf8 key keys all) tt s i)
  where
    absent : (ks : List (List ℕ)) → absent_slot p key ks ≡ Ok s → KeyIsText s
    absent [] i = let same : slot.Absent p key ≡ s = cc in subst KeyIsText same (All-head IsUtf8 key keys all)
    absent (k ∷ more) i = absurd (let no : ⊥ = cc in no)

    below : (n : ℕ) (o : Option (Child Span)) → in_child key (λ c. slot_in (child p c.number) c.value (slot.Element p n) keys) o ≡ Ok s
        → ((m : ℕ) (c : Child Span) → slot_in (child p c.number) c.value (slot.Element p m) keys ≡ Ok s → KeyIsText s) → KeyIsText s
    below n None i rest = absurd (let no : ⊥ = cc in no)
    below n (Some c) i rest = rest n c i

    go : (r : Result (Option ℕ) Refusal) → at_number (absent_slot p key keys) (λ n. in_child key (λ c. slot_in (child p c.number) c.value (slot.Element p n) keys) (nth_child 0 (elements_in e) n)) r ≡ Ok s
        → ((m : ℕ) (c : Child Span) → slot_in (child p c.number) c.value (slot.Element p m) keys ≡ Ok s → KeyIsText s) → KeyIsText s
    go (Err f) i rest = absurd (let no : ⊥ = cc in no)
    go (Ok None) i rest = absent keys i
    go (Ok (Some n)) i rest = below n (nth_child 0 (elements_in e) n) i rest

pub key_is_text : (old : Loaded) (c : CallRef) (keys : List (List ℕ)) → All IsUtf8 keys → (s : Slot) → the_slot (project old) c keys ≡ Ok s → KeyIsText s
key_is_text old c keys all s h = go (expression_at (project old) c) h
  where
    go : (o : Option (Expression Span)) → slot_from c keys o ≡ Ok s → KeyIsText s
    go None i = absurd (let no : ⊥ = cc in no)
    go (Some e) i = key_of c e (slot.Whole c) keys all tt s i

-- ---- the law

pub slot_doable : (old : Loaded) → IsProject old → (key : List ℕ) (c : ValueChange) (may : MayBeMade c) (s : Slot) → SlotIsThere (project old) s → KeyIsText s → (steps : List Step) → slot_steps old key c may s ≡ Ok steps
    → AreDoable steps (plain_trees old)
slot_doable old is key (change.Set g) may s there text steps made = set_within_doable old is g may key s text steps made
slot_doable old is key (change.SetAll gs) may s there text steps made = set_all_steps_doable old is gs may key s steps (λ h. set_all_doable old is gs may key s text steps h) made
slot_doable old is key (change.Add gs) may s there text steps made = added_steps_doable old is gs may key s steps (λ h. add_doable old is gs may key s text steps h) made
slot_doable old is key (change.AddAfter g gs) may s there text steps made = insert_doable old is g gs may key s steps made
slot_doable old is key (change.AddSorted gs) may s there text steps made =
    sorted_doable old is gs may key s steps (λ m. added_steps_doable old is gs may key s steps (λ h. add_doable old is gs may key s text steps h) m) made
slot_doable old is key (change.Remove gs) may s there text steps made = remove_doable old is gs key s steps made
slot_doable old is key (change.Replace was new) may s there text steps made = replace_doable old is was new may key s steps made
slot_doable old is key change.Delete may s there text steps made = delete_doable old is s there steps made

-- ---- one value, or all that are assigned to a variable

module _ (old : Loaded) (is : IsProject old) (n : ValueName) (key : List ℕ) (s : Slot) (named : IsNamed old n s) (steps : List Step) where
  pub removed_of : (gs : List Given) (one : Result (List Step) Refusal) → (Left : Type 0) → (one ≡ Ok steps → Left)
      → ((cs : List CallRef) → all_assigned old.files (project old) n gs s ≡ Ok (Some cs) → remove_each old key gs cs ≡ Ok steps → Left)
      → then_ok (all_assigned old.files (project old) n gs s) (removed_or old key gs one) ≡ Ok steps → Left
  removed_of gs one Left alone all made =
      let a = ok_then (all_assigned old.files (project old) n gs s) (removed_or old key gs one) steps made in
      go a.0 a.1 a.2
    where
      go : (o : Option (List CallRef)) → all_assigned old.files (project old) n gs s ≡ Ok o → removed_or old key gs one o ≡ Ok steps → Left
      go None found h = alone h
      go (Some cs) found h = all cs found h

  pub replaced_of : (x : Exchange) (one : Result (List Step) Refusal) → (Left : Type 0) → (one ≡ Ok steps → Left)
      → ((cs : List CallRef) → all_assigned old.files (project old) n (x.old ∷ []) s ≡ Ok (Some cs) → replace_each old key x cs ≡ Ok steps → Left)
      → then_ok (all_assigned old.files (project old) n (x.old ∷ []) s) (replaced_or old key x one) ≡ Ok steps → Left
  replaced_of x one Left alone all made =
      let a = ok_then (all_assigned old.files (project old) n (x.old ∷ []) s) (replaced_or old key x one) steps made in
      go a.0 a.1 a.2
    where
      go : (o : Option (List CallRef)) → all_assigned old.files (project old) n (x.old ∷ []) s ≡ Ok o → replaced_or old key x one o ≡ Ok steps → Left
      go None found h = alone h
      go (Some cs) found h = all cs found h

  pub changed_doable : (c : ValueChange) (may : MayBeMade c) (one : Result (List Step) Refusal) → (one ≡ Ok steps → AreDoable steps (plain_trees old)) → changed_by old n key c may s one ≡ Ok steps → AreDoable steps (plain_trees old)
  changed_doable (change.Remove gs) may one alone made =
      removed_of gs one (AreDoable steps (plain_trees old)) alone (λ cs found h. each_removed_doable old is gs key cs steps h (all_there old n s named gs cs found)) made
  changed_doable (change.Replace was new) may one alone made =
      replaced_of (exchange was new may) one (AreDoable steps (plain_trees old)) alone (λ cs found h. each_replaced_doable old is was new may key cs steps h (all_there old n s named (was ∷ []) cs found)) made
  changed_doable (change.Set g) may one alone made = alone made
  changed_doable (change.SetAll gs) may one alone made = alone made
  changed_doable (change.Add gs) may one alone made = alone made
  changed_doable (change.AddAfter g gs) may one alone made = alone made
  changed_doable (change.AddSorted gs) may one alone made = alone made
  changed_doable change.Delete may one alone made = alone made

pub argument_steps_are_doable : ArgumentStepsAreDoable
argument_steps_are_doable old is n texts c may steps made =
    let p = ok_then (the_place old n.place) (λ q. then_ok (the_slot (project old) q n.keys) (λ s. named_steps old n (last_key n.keys) c may s)) steps made in
    let s = ok_then (the_slot (project old) p.0 n.keys) (λ s. named_steps old n (last_key n.keys) c may s) steps p.2 in
    let u = ok_then (checked_name (project old) (last_key n.keys) c s.0) (λ _. changed_steps old n (last_key n.keys) c may s.0) steps s.2 in
    let named : IsNamed old n s.0 = record { place = p.0; is_place = p.1; is_slot = s.1 } in
    changed_doable old is n (last_key n.keys) s.0 named steps c may (one_changed old n (last_key n.keys) c may s.0)
    (λ one.
    let t = ok_then (changed_slot old.files (project old) n c s.0) (slot_steps old (last_key n.keys) c may) steps one in
    let changed = changes_one_value old n c s.0 t.0 t.1 in
    let there = changed_there old n s.0 t.0 (slots_are_there (project old) p.0 n.keys s.0 s.1) changed in
    let text = changed_text old n s.0 t.0 (key_is_text old p.0 n.keys texts s.0 s.1) changed in
    slot_doable old is (last_key n.keys) c may t.0 there text steps t.2) u.2
