-- What a change of one value leaves.
use Rattle.std.proofs.Common.{Err, List, None, Ok, Option, Result, Some, ℕ, ◌∙◌, ◌∷◌, ◌≡◌, [], ap, false, inl, inr, refl, subst, sym, true}
use Rattle.std.specs.Prelude.{Bool, ◌⊎◌, if◌then◌else◌, option_and_then, option_map}
use Rattle.meson_lex.specs.declared.kinds.Span.{Span}
use Rattle.meson_splice.specs.Files.{bytes_at}
use Rattle.meson_splice.specs.Patch.{then_ok}
use Rattle.meson_syntax.specs.Tree.{Expression, Nowhere, Plain, erase_expression}
use Rattle.meson_syntax.proofs.parsing.Steps.{some-injective}
use Rattle.meson_edit.specs.Edits.{Replace, Written}
use Rattle.meson_calls.specs.declared.call.CallRef.{CallRef}
use Rattle.meson_calls.specs.declared.refusal.Refusal.{Refusal}
use Rattle.meson_calls.specs.declared.refusal.Refusal.TheVariants.{NotLiteral, TooDeep}
use Rattle.meson_calls.specs.Loading.{IsProject, Loaded, project}
use Rattle.meson_calls.specs.Project.{child, expression_at, placed}
use Rattle.meson_steps.specs.declared.argument.ValueChange.{ValueChange}
use Rattle.meson_steps.specs.declared.argument.ValueChange.TheVariants as change
use Rattle.meson_steps.specs.declared.argument.ValueName.{ValueName}
use Rattle.meson_steps.specs.declared.given.Given.{Given}
use Rattle.meson_steps.specs.GivenWords.{MayBeGiven}
use Rattle.meson_steps.specs.ResultLimits.{plain_trees}
use Rattle.meson_steps.specs.Steps.{Step, all_stepped, step_in}
use Rattle.meson_places.specs.declared.slots.Slot.{Slot}
use Rattle.meson_places.specs.declared.slots.Slot.TheVariants as slot
use Rattle.meson_places.specs.Arguments.{MayBeMade, argument_steps, changed_steps, if_room_at, last_key, named_steps, one_changed, set_within, slot_steps}
use Rattle.meson_places.specs.TargetNames.{checked_name}
use Rattle.meson_places.specs.Changes.{element_child, set_steps, set_there}
use Rattle.meson_places.specs.Equality.{lists_say, says}
use Rattle.meson_places.specs.AssignedArrays.{added_by, added_steps, lone_in}
use Rattle.meson_places.specs.AssignedEffects.{AllChanged, IsNamed}
use Rattle.meson_places.specs.Effects.{AddedBeside, AddedTo, AssignedBeside, AssignedSet, ElementAdded, ElementSorted, IsBeside, OneChanged, SetLeft, SlotLeft, ValueLeft, WholeAdded, WholeSorted}
use Rattle.meson_places.specs.AssignedValues.{assigned_room}
use Rattle.meson_places.proofs.AssignedLeft.{assigned_set}
use Rattle.meson_places.proofs.AssignedLone.{added_left, assigned_array_left}
use Rattle.meson_places.specs.Assignments.{changed_slot}
use Rattle.meson_places.specs.Behind.{placed_at}
use Rattle.meson_places.specs.Names.{the_place}
use Rattle.meson_places.specs.NewElements.{add_steps, add_there, add_to_last, add_to_lone, add_to_value, add_to_whole, array_with, beside, fresh_written, lone_token}
use Rattle.meson_places.specs.Room.{if_room}
use Rattle.meson_places.specs.Several.{AllMayBeGiven}
use Rattle.meson_places.specs.Slots.{Child, the_slot}
use Rattle.meson_places.specs.SortedAdditions.{sort_into_value, sorted_steps}
use Rattle.meson_places.specs.SortedEffects.{SortedInto}
use Rattle.meson_places.specs.ValueLists.{ValueList, last_of, lists_of}
use Rattle.meson_places.specs.Values.{written_given}
use Rattle.meson_places.proofs.AllMade.{each_removed, each_replaced}
use Rattle.meson_places.proofs.AllPlaced.{all_there}
use Rattle.meson_places.proofs.ArgumentsDoable.{removed_of, replaced_of}
use Rattle.meson_places.specs.Replacements.{exchange}
use Rattle.meson_places.proofs.AddedValues.{adds_to_one_list}
use Rattle.meson_places.proofs.Refused.{ok_then}
use Rattle.meson_places.proofs.BetweenLeft.{values_put_behind}
use Rattle.meson_places.proofs.ListsThere.{element_there}
use Rattle.meson_places.proofs.SaidLeft.{element_removed, element_replaced, whole_removed, whole_replaced}
use Rattle.meson_places.proofs.ElementsLeft.{text_alone}
use Rattle.meson_places.proofs.KeysLeft.{array_added, array_set, key_set}
use Rattle.meson_places.proofs.SetValues.{deletes_one_element, keeps_kinds, set_one, sets_one_value}
use Rattle.meson_places.proofs.OwnAssigned.{changes_one_value}
use Rattle.meson_places.proofs.SlotsThere.{slots_are_there}
use Rattle.meson_places.proofs.SortedValues.{Into, into_value}
use Rattle.meson_places.proofs.WithRoom.{with_room}

-- a value that is there
set_left : (l : Loaded) (g : Given) (may : MayBeGiven g) (key : List ℕ) (list : CallRef) (n : ℕ) (steps : List Step) (after : List Plain)
    → set_within l g (written_given g may) key (slot.Element list n) ≡ Ok steps → all_stepped steps (plain_trees l) ≡ Some after → SetLeft l g list n (plain_trees l) after
set_left l g may key list n steps after made done =
    let w = written_given g may in
    let s = ok_then (set_steps l g w key (slot.Element list n)) (if_room l list w.node) steps made in
    let is : set_steps l g w key (slot.Element list n) ≡ Ok steps = s.1 ∙ ap Ok (with_room l list w.node s.0 steps s.2) in
    let m = keeps_kinds l g w key list n steps is in
    record {
      may_set = m;
      may = may;
      now = λ kept. sets_one_value l g w key list n m.value m.is_value kept steps is (plain_trees l) after done;
      alone = λ v there other texts. text_alone l g w key list n steps after done v there (sym (ap (set_there g w key list n) there) ∙ is) other texts;
    }

-- an assigned value
assigned_set_left : (l : Loaded) (g : Given) (may : MayBeGiven g) (key : List ℕ) (c : CallRef) (steps : List Step) (after : List Plain)
    → set_within l g (written_given g may) key (slot.Whole c) ≡ Ok steps → all_stepped steps (plain_trees l) ≡ Some after → AssignedSet l g c (plain_trees l) after
assigned_set_left l g may key c steps after made done =
    let w = written_given g may in
    let s = ok_then (set_steps l g w key (slot.Whole c)) (if_room_at l (slot.Whole c) w.node) steps made in
    let same : s.0 ≡ steps = roomed (assigned_room c w.node) s.0 s.2 in
    assigned_set l g may key c s.0 after (ap (λ ss. all_stepped ss (plain_trees l)) same ∙ done) (expression_at (project l) c) refl s.1
  where
    roomed : (b : Bool) (some : List Step) → (if b then Ok some else Err TooDeep) ≡ Ok steps → some ≡ steps
    roomed true some h = cc
    roomed false some h = absurd (let no : ⊥ = cc in no)

-- values that are added
module _ (l : Loaded) (gs : List Given) (may : AllMayBeGiven gs) (key : List ℕ) (steps : List Step) (after : List Plain) (done : all_stepped steps (plain_trees l) ≡ Some after) where
  to_value : (c : CallRef) (e : Expression Span) → expression_at (project l) c ≡ Some e → (otherwise : Result (List Step) Refusal) → (Left : Type 0) → (otherwise ≡ Ok steps → Left) → add_to_value l gs may otherwise c e ≡ Ok steps
      → AddedTo l gs may c e (plain_trees l) after ⊎ Left
  to_value c e at_ otherwise Left other made = go (last_of (lists_of c e)) refl made
    where
      known : Given → Bool
      known = lists_say (bytes_at c.file l.files) (lists_of c e)

      go : (o : Option (ValueList Span)) → last_of (lists_of c e) ≡ o → add_to_last l known gs may otherwise o ≡ Ok steps → AddedTo l gs may c e (plain_trees l) after ⊎ Left
      go None no_list m = inr (other m)
      go (Some list) last m = inl (record { list = list; is_last = last; now = adds_to_one_list l gs may otherwise c e at_ list last steps made after done })

  beside_left : (list : CallRef) (n : ℕ) (old : Written (Expression Nowhere)) (ws : List (Written (Expression Nowhere))) → beside l list n old ws ≡ Ok steps → IsBeside list n old ws (plain_trees l) after
  beside_left list n old [] made =
      let none : [] ≡ steps = cc in
      let same : Some (plain_trees l) ≡ Some after = ap (λ ss. all_stepped ss (plain_trees l)) none ∙ done in
      cc
  beside_left list n old (w ∷ ws) made =
      let new = array_with old (w ∷ ws) in
      let all = step_in list (Replace list.path.steps n new) ∷ [] in
      set_one list n new (plain_trees l) after (ap (λ ss. all_stepped ss (plain_trees l)) (with_room l list new.node all steps made) ∙ done)

  lone_left : (list : CallRef) (n : ℕ) (e : Expression Span) → add_to_lone l gs may key list n e (lone_token e) ≡ Ok steps → AddedBeside l gs may list n e (plain_trees l) after
  lone_left list n e made = go (lone_token e) refl made
    where
      go : (o : Option (List ℕ)) → lone_token e ≡ o → add_to_lone l gs may key list n e o ≡ Ok steps → AddedBeside l gs may list n e (plain_trees l) after
      go None token m = absurd (let no : ⊥ = cc in no)
      go (Some x) token m = record {
        token = x;
        is_token = token;
        now = beside_left list n (record { bytes = x; node = erase_expression e }) (fresh_written (λ g. says (bytes_at list.file l.files) g e) [] gs may) m;
      }

  element_left : (list : CallRef) (n : ℕ) → add_steps l gs may key (slot.Element list n) ≡ Ok steps → ElementAdded l gs list n (plain_trees l) after
  element_left list n made = go (element_child (project l) list n) refl made
    where
      go : (o : Option (Child Span)) → element_child (project l) list n ≡ o → add_there l gs may key list n o ≡ Ok steps → ElementAdded l gs list n (plain_trees l) after
      go None is m = absurd (let no : ⊥ = cc in no)
      go (Some v) is m = record {
        may = may;
        value = v;
        is_value = is;
        added = to_value (child list v.number) v.value (element_there (project l) list n v is).at_child (add_to_lone l gs may key list n v.value (lone_token v.value))
            (AddedBeside l gs may list n v.value (plain_trees l) after) (lone_left list n v.value) m;
      }

  whole_left : (c : CallRef) → add_steps l gs may key (slot.Whole c) ≡ Ok steps → WholeAdded l gs c (plain_trees l) after
  whole_left c made = go (expression_at (project l) c) refl made
    where
      one : (e : Expression Span) → AddedTo l gs may c e (plain_trees l) after ⊎ ⊥ → AddedTo l gs may c e (plain_trees l) after
      one e (inl x) = x
      one e (inr never) = absurd never

      go : (o : Option (Expression Span)) → expression_at (project l) c ≡ o → add_to_whole l gs may key c o ≡ Ok steps → WholeAdded l gs c (plain_trees l) after
      go None is m = absurd (let no : ⊥ = cc in no)
      go (Some e) is m = record { may = may; value = e; is_value = is; added = inl (one e (to_value c e is (Err (NotLiteral key)) ⊥ (λ h. let no : ⊥ = cc in no) m)) }

  whole_added : (c : CallRef) → added_steps l gs may key (slot.Whole c) ≡ Ok steps → WholeAdded l gs c (plain_trees l) after
  whole_added c made = go (added_left l gs may key steps after done c (WholeAdded l gs c (plain_trees l) after) (whole_left c) made)
    where
      go : WholeAdded l gs c (plain_trees l) after ⊎ ((e : Expression Span) × (expression_at (project l) c ≡ Some e) × AssignedBeside l gs may c e (plain_trees l) after) → WholeAdded l gs c (plain_trees l) after
      go (inl w) = w
      go (inr b) = record { may = may; value = b.0; is_value = b.1; added = inr b.2 }

-- values that are put in their places
module _ (l : Loaded) (is : IsProject l) (gs : List Given) (may : AllMayBeGiven gs) (key : List ℕ) (steps : List Step) (after : List Plain) (done : all_stepped steps (plain_trees l) ≡ Some after) where
  abbrev Beside : (c : CallRef) (e : Expression Span) (Left : Type 0) → Type 0
  Beside c e Left = SortedInto l gs may c e (plain_trees l) after ⊎ Left

  -- where the value has no list, none of its lists has the values
  no_added : (c : CallRef) (e : Expression Span) (Left : Type 0) → last_of (lists_of c e) ≡ None → AddedTo l gs may c e (plain_trees l) after ⊎ Left → Beside c e Left
  no_added c e Left no_list (inl a) = let none : None ≡ Some a.list = sym no_list ∙ a.is_last in absurd (let no : ⊥ = cc in no)
  no_added c e Left no_list (inr b) = inr b

  sorted_value : (otherwise : Result (List Step) Refusal) (c : CallRef) (e : Expression Span) (Left : Type 0) → expression_at (project l) c ≡ Some e
      → (otherwise ≡ Ok steps → AddedTo l gs may c e (plain_trees l) after ⊎ Left) → sort_into_value l gs may otherwise (Some (placed c e)) ≡ Ok steps → Beside c e Left
  sorted_value otherwise c e Left at_ other made = go (into_value l is gs may otherwise steps c e at_ made)
    where
      go : Into l is gs may otherwise steps c e ⊎ ((last_of (lists_of c e) ≡ None) × (otherwise ≡ Ok steps)) → Beside c e Left
      go (inl i) = inl (record { list = i.list; is_last = i.is_last; now = i.puts.left after done })
      go (inr m) = no_added c e Left m.0 (other m.1)

  element_sorted : (list : CallRef) (n : ℕ) → sorted_steps l gs may key (slot.Element list n) ≡ Ok steps → ElementSorted l gs list n (plain_trees l) after
  element_sorted list n made = go (element_child (project l) list n) refl made
    where
      otherwise : Result (List Step) Refusal
      otherwise = add_steps l gs may key (slot.Element list n)

      go : (o : Option (Child Span)) → element_child (project l) list n ≡ o
          → sort_into_value l gs may otherwise (option_and_then (placed_at (project l)) (option_map (λ v. child list v.number) o)) ≡ Ok steps → ElementSorted l gs list n (plain_trees l) after
      go None there m = let none : add_there l gs may key list n None ≡ Ok steps = sym (ap (add_there l gs may key list n) there) ∙ m in absurd (let no : ⊥ = cc in no)
      go (Some v) there m =
          let at_ = (element_there (project l) list n v there).at_child in
          let lone = add_to_lone l gs may key list n v.value (lone_token v.value) in
          record {
            may = may;
            value = v;
            is_value = there;
            added = sorted_value otherwise (child list v.number) v.value (AddedBeside l gs may list n v.value (plain_trees l) after) at_
                (λ h. to_value l gs may key steps after done (child list v.number) v.value at_ lone (AddedBeside l gs may list n v.value (plain_trees l) after)
                (lone_left l gs may key steps after done list n v.value) (sym (ap (add_there l gs may key list n) there) ∙ h))
                (ap (λ o. sort_into_value l gs may otherwise (option_map (placed (child list v.number)) o)) (sym at_) ∙ m);
          }

  whole_sorted : (c : CallRef) → sorted_steps l gs may key (slot.Whole c) ≡ Ok steps → WholeSorted l gs c (plain_trees l) after
  whole_sorted c made = go (expression_at (project l) c) refl made
    where
      otherwise : Result (List Step) Refusal
      otherwise = added_steps l gs may key (slot.Whole c)

      to_lists : (e : Expression Span) → expression_at (project l) c ≡ Some e → add_steps l gs may key (slot.Whole c) ≡ Ok steps → AddedTo l gs may c e (plain_trees l) after
      to_lists e at_ h =
          one (to_value l gs may key steps after done c e at_ (Err (NotLiteral key)) ⊥ (λ refused. let no : ⊥ = cc in no) (sym (ap (add_to_whole l gs may key c) at_) ∙ h))
        where
          one : AddedTo l gs may c e (plain_trees l) after ⊎ ⊥ → AddedTo l gs may c e (plain_trees l) after
          one (inl a) = a
          one (inr never) = absurd never

      added_of : (e : Expression Span) → expression_at (project l) c ≡ Some e → otherwise ≡ Ok steps → AddedTo l gs may c e (plain_trees l) after ⊎ AssignedBeside l gs may c e (plain_trees l) after
      added_of e at_ h = by (added_left l gs may key steps after done c (AddedTo l gs may c e (plain_trees l) after) (to_lists e at_) h)
        where
          by : AddedTo l gs may c e (plain_trees l) after ⊎ ((x : Expression Span) × (expression_at (project l) c ≡ Some x) × AssignedBeside l gs may c x (plain_trees l) after)
              → AddedTo l gs may c e (plain_trees l) after ⊎ AssignedBeside l gs may c e (plain_trees l) after
          by (inl a) = inl a
          by (inr b) = inr (subst (λ x. AssignedBeside l gs may c x (plain_trees l) after) (some-injective b.0 e (sym b.1 ∙ at_)) b.2)

      go : (o : Option (Expression Span)) → expression_at (project l) c ≡ o → sort_into_value l gs may otherwise (option_map (placed c) o) ≡ Ok steps → WholeSorted l gs c (plain_trees l) after
      go None at_ m =
          let none : add_to_whole l gs may key c None ≡ Ok steps =
          sym (ap (λ o. added_by l gs may key (slot.Whole c) (lone_in (project l) c o)) at_ ∙ ap (add_to_whole l gs may key c) at_) ∙ m in
          absurd (let no : ⊥ = cc in no)
      go (Some e) at_ m = record {
        may = may;
        value = e;
        is_value = at_;
        added = sorted_value otherwise c e (AssignedBeside l gs may c e (plain_trees l) after) at_ (added_of e at_) m;
      }

pub slot_left : (l : Loaded) → IsProject l → (key : List ℕ) (c : ValueChange) (may : MayBeMade c) (s : Slot) (steps : List Step) (after : List Plain) → slot_steps l key c may s ≡ Ok steps
    → all_stepped steps (plain_trees l) ≡ Some after → SlotLeft l c s (plain_trees l) after
slot_left l is key (change.Set g) may (slot.Element list n) steps after made done = set_left l g may key list n steps after made done
slot_left l is key (change.Set g) may (slot.Absent list k) steps after made done = record { may = may; added = key_set l g may key list k steps after made done }
slot_left l is key (change.Set g) may (slot.Whole p) steps after made done = assigned_set_left l g may key p steps after made done
slot_left l is key (change.SetAll gs) may (slot.Element list n) steps after made done = array_set l gs may steps after done key list n made
slot_left l is key (change.SetAll gs) may (slot.Absent list k) steps after made done = array_added l gs may steps after done list k made
slot_left l is key (change.SetAll gs) may (slot.Whole p) steps after made done = assigned_array_left l gs may key steps after done p made
slot_left l is key (change.Add gs) may (slot.Element list n) steps after made done = element_left l gs may key steps after done list n made
slot_left l is key (change.Add gs) may (slot.Absent list k) steps after made done = array_added l gs may steps after done list k made
slot_left l is key (change.Add gs) may (slot.Whole c) steps after made done = whole_added l gs may key steps after done c made
slot_left l is key (change.AddAfter g gs) may s steps after made done = values_put_behind l g gs may key s steps after made done
slot_left l is key (change.AddSorted gs) may (slot.Element list n) steps after made done = element_sorted l is gs may key steps after done list n made
slot_left l is key (change.AddSorted gs) may (slot.Absent list k) steps after made done = array_added l gs may steps after done list k made
slot_left l is key (change.AddSorted gs) may (slot.Whole c) steps after made done = whole_sorted l is gs may key steps after done c made
slot_left l is key (change.Remove gs) may (slot.Element list n) steps after made done = element_removed l is steps after done gs key list n made
slot_left l is key (change.Remove gs) may (slot.Absent list k) steps after made done = tt
slot_left l is key (change.Remove gs) may (slot.Whole c) steps after made done = whole_removed l is steps after done gs key c made
slot_left l is key (change.Replace was new) may (slot.Element list n) steps after made done = element_replaced l is steps after done was new may key list n made
slot_left l is key (change.Replace was new) may (slot.Absent list k) steps after made done = tt
slot_left l is key (change.Replace was new) may (slot.Whole c) steps after made done = whole_replaced l is steps after done was new may key c made
slot_left l is key change.Delete may (slot.Element list n) steps after made done = deletes_one_element list n steps made (plain_trees l) after done
slot_left l is key change.Delete may (slot.Absent list k) steps after made done =
    let none : [] ≡ steps = cc in
    let same : Some (plain_trees l) ≡ Some after = ap (λ ss. all_stepped ss (plain_trees l)) none ∙ done in
    cc
slot_left l is key change.Delete may (slot.Whole p) steps after made done = tt

-- of one value, or of all that are assigned to a variable
module _ (l : Loaded) (is : IsProject l) (n : ValueName) (key : List ℕ) (s : Slot) (named : IsNamed l n s) (steps : List Step) (after : List Plain) (done : all_stepped steps (plain_trees l) ≡ Some after) where
  pub one_left : (c : ValueChange) (may : MayBeMade c) → one_changed l n key c may s ≡ Ok steps → OneChanged l n s c (plain_trees l) after
  one_left c may made =
      let t = ok_then (changed_slot l.files (project l) n c s) (slot_steps l key c may) steps made in
      record { changed = t.0; is_changed = changes_one_value l n c s t.0 t.1; left = slot_left l is key c may t.0 steps after t.2 done }

  abbrev pub Left : ValueChange → Type 0
  Left c = OneChanged l n s c (plain_trees l) after ⊎ AllChanged l n s c (plain_trees l) after

  pub changed_left : (c : ValueChange) (may : MayBeMade c) → changed_steps l n key c may s ≡ Ok steps → Left c
  changed_left (change.Remove gs) may made =
      removed_of l is n key s named steps gs (one_changed l n key (change.Remove gs) may s) (Left (change.Remove gs)) (λ h. inl (one_left (change.Remove gs) may h))
      (λ cs found h. inr (record { values = cs; are = found; left = each_removed l is gs key cs steps h (all_there l n s named gs cs found) after done })) made
  changed_left (change.Replace was new) may made =
      replaced_of l is n key s named steps (exchange was new may) (one_changed l n key (change.Replace was new) may s) (Left (change.Replace was new)) (λ h. inl (one_left (change.Replace was new) may h))
      (λ cs found h. inr (record { values = cs; are = found; left = each_replaced l is was new may key cs steps h (all_there l n s named (was ∷ []) cs found) after done })) made
  changed_left (change.Set g) may made = inl (one_left (change.Set g) may made)
  changed_left (change.SetAll gs) may made = inl (one_left (change.SetAll gs) may made)
  changed_left (change.Add gs) may made = inl (one_left (change.Add gs) may made)
  changed_left (change.AddAfter g gs) may made = inl (one_left (change.AddAfter g gs) may made)
  changed_left (change.AddSorted gs) may made = inl (one_left (change.AddSorted gs) may made)
  changed_left change.Delete may made = inl (one_left change.Delete may made)

pub values_left : (l : Loaded) → IsProject l → (n : ValueName) (c : ValueChange) (may : MayBeMade c) (steps : List Step) (after : List Plain) → argument_steps l n c may ≡ Ok steps
    → all_stepped steps (plain_trees l) ≡ Some after → ValueLeft l n c (plain_trees l) after
values_left l is n c may steps after made done =
    let p = ok_then (the_place l n.place) (λ q. then_ok (the_slot (project l) q n.keys) (λ s. named_steps l n (last_key n.keys) c may s)) steps made in
    let s = ok_then (the_slot (project l) p.0 n.keys) (λ t. named_steps l n (last_key n.keys) c may t) steps p.2 in
    let u = ok_then (checked_name (project l) (last_key n.keys) c s.0) (λ _. changed_steps l n (last_key n.keys) c may s.0) steps s.2 in
    record {
      place = p.0;
      is_place = p.1;
      named = s.0;
      is_named = s.1;
      is_there = slots_are_there (project l) p.0 n.keys s.0 s.1;
      left = changed_left l is n (last_key n.keys) s.0 (record { place = p.0; is_place = p.1; is_slot = s.1 }) steps after done c may u.2;
    }
