-- The steps of a change where variables are followed: they may be done, and what they leave.
use Rattle.std.proofs.Common.{◌≡◌, ℕ, true, false, List, [], ◌∷◌, Option, Some, None, Ok, refl, sym, ap, ◌∙◌, inl, inr}
use Rattle.std.specs.Prelude.{◌⊎◌, not}
use Rattle.meson_lex.specs.declared.kinds.Span.{Span}
use Rattle.meson_splice.specs.Patch.{then_ok}
use Rattle.meson_syntax.specs.Tree.{Expression, Plain}
use Rattle.meson_calls.specs.declared.call.CallRef.{CallRef}
use Rattle.meson_calls.specs.Loading.{IsProject, Loaded, project}
use Rattle.meson_calls.specs.Project.{Project, expression_at}
use Rattle.meson_edit.specs.Edits.{is_empty}
use Rattle.meson_steps.specs.ListSteps.{AreDoable}
use Rattle.meson_steps.specs.ResultLimits.{plain_trees}
use Rattle.meson_steps.specs.Steps.{Step, all_stepped}
use Rattle.meson_steps.specs.declared.argument.ValueChange.{ValueChange}
use Rattle.meson_steps.specs.declared.argument.ValueChange.TheVariants as change
use Rattle.meson_steps.specs.declared.argument.ValueName.{ValueName}
use Rattle.meson_steps.specs.declared.given.Given.{Given}
use Rattle.meson_places.specs.declared.slots.Slot.{Slot}
use Rattle.meson_places.specs.declared.slots.Slot.TheVariants as slot
use Rattle.meson_places.specs.Arguments.{MayBeMade, changed_steps, last_key, one_changed, slot_steps}
use Rattle.meson_places.specs.AssignedEffects.{IsNamed}
use Rattle.meson_places.specs.Assignments.{changed_slot}
use Rattle.meson_places.specs.Behind.{has_lists, lists_in}
use Rattle.meson_places.specs.Laws.{SlotIsThere}
use Rattle.meson_places.specs.Names.{the_place}
use Rattle.meson_places.specs.Slots.{the_slot}
use Rattle.meson_places.specs.TargetNames.{checked_name}
use Rattle.meson_places.proofs.AllMade.{each_removed, each_removed_doable, each_replaced, each_replaced_doable}
use Rattle.meson_places.proofs.ArgumentsDoable.{changed_doable, key_is_text, slot_doable}
use Rattle.meson_places.proofs.OwnAssigned.{changed_text, changed_there, changes_one_value}
use Rattle.meson_places.proofs.Refused.{ok_then}
use Rattle.meson_places.proofs.SlotsDoable.{KeyIsText}
use Rattle.meson_places.proofs.SlotsThere.{slots_are_there}
use Rattle.meson_places.proofs.ValuesLeft.{changed_left, slot_left}
use Rattle.std.proofs.lemmas.List.Elements.{All-head}
use Rattle.meson_followed_values.specs.Effects.{AsNamed, EachFollowed, IsFollowed, OneFollowed}
use Rattle.meson_followed_values.specs.Followed.{followed_steps, gaining, losing, named_steps, removed_in, replaced_in, slot_at, slot_first, steps_in, steps_of}
use Rattle.meson_followed_values.specs.Laws.{FollowedStepsAreDoable, FollowedStepsLeave}
use Rattle.meson_followed_values.proofs.AllThere.{lost_there}
use Rattle.meson_followed_values.proofs.Owned.{adds_to_own_value, loses_own_values}

-- a value that has a list is there
list_there : (p : Project Span) (c : CallRef) → has_lists p c ≡ true → SlotIsThere p (slot.Whole c)
list_there p c has = go (expression_at p c) refl
  where
    go : (o : Option (Expression Span)) → expression_at p c ≡ o → (e : Expression Span) × (expression_at p c ≡ Some e)
    go None at_ = let none : false ≡ true = sym (ap (λ o. not (is_empty (lists_in c o))) at_) ∙ has in absurd (let no : ⊥ = cc in no)
    go (Some e) at_ = (e, at_)

module _ (old : Loaded) (is : IsProject old) (n : ValueName) (key : List ℕ) (s : Slot) (named : IsNamed old n s) (there : SlotIsThere (project old) s) (steps : List Step) where
  abbrev p : Project Span
  p = project old

  abbrev Lost : List Given → List CallRef → Type 0
  Lost gs cs = losing old.files p gs s ≡ Ok cs

  first_there : (gs : List Given) (cs : List CallRef) → Lost gs cs → SlotIsThere p (slot_first s cs)
  first_there gs [] lost = there
  first_there gs (c ∷ cs) lost = let v = (lost_there old gs s (c ∷ cs) lost).values.0 in (v.it, v.is_it)

  gained_there : (gs : List Given) → SlotIsThere p (slot_at s (gaining old.files p gs s))
  gained_there gs = go (gaining old.files p gs s) refl
    where
      go : (o : Option CallRef) → gaining old.files p gs s ≡ o → SlotIsThere p (slot_at s o)
      go None found = there
      go (Some c) found = list_there p c (adds_to_own_value old.files p gs s c found).has_list

  -- ---- they may be done

  module _ (text : KeyIsText s) where
    abbrev MayBeDone : Type 0
    MayBeDone = AreDoable steps (plain_trees old)

    first_text : (cs : List CallRef) → KeyIsText (slot_first s cs)
    first_text [] = text
    first_text (c ∷ cs) = tt

    gained_text : (o : Option CallRef) → KeyIsText (slot_at s o)
    gained_text None = text
    gained_text (Some c) = tt

    plain_doable : (c : ValueChange) (may : MayBeMade c) → changed_steps old n key c may s ≡ Ok steps → MayBeDone
    plain_doable c may made =
        changed_doable old is n key s named steps c may (one_changed old n key c may s)
        (λ one. let t = ok_then (changed_slot old.files p n c s) (slot_steps old key c may) steps one in
        let changed = changes_one_value old n c s t.0 t.1 in
        slot_doable old is key c may t.0 (changed_there old n s t.0 there changed) (changed_text old n s t.0 text changed) steps t.2) made

    in_doable : (c : ValueChange) (may : MayBeMade c) → steps_in old key n c may s ≡ Ok steps → MayBeDone
    in_doable (change.Add gs) may made = slot_doable old is key (change.Add gs) may (slot_at s (gaining old.files p gs s)) (gained_there gs) (gained_text (gaining old.files p gs s)) steps made
    in_doable (change.AddSorted gs) may made = slot_doable old is key (change.AddSorted gs) may (slot_at s (gaining old.files p gs s)) (gained_there gs) (gained_text (gaining old.files p gs s)) steps made
    in_doable (change.AddAfter g gs) may made =
        let a = ok_then (losing old.files p (g ∷ []) s) (λ cs. slot_steps old key (change.AddAfter g gs) may (slot_first s cs)) steps made in
        slot_doable old is key (change.AddAfter g gs) may (slot_first s a.0) (first_there (g ∷ []) a.0 a.1) (first_text a.0) steps a.2
    in_doable (change.Remove gs) may made =
        let a = ok_then (losing old.files p gs s) (removed_in old key gs s) steps made in
        go a.0 a.1 a.2
      where
        go : (cs : List CallRef) → Lost gs cs → removed_in old key gs s cs ≡ Ok steps → MayBeDone
        go [] lost h = slot_doable old is key (change.Remove gs) tt s there text steps h
        go (c ∷ cs) lost h = each_removed_doable old is gs key (c ∷ cs) steps h (lost_there old gs s (c ∷ cs) lost)
    in_doable (change.Replace was new) may made =
        let a = ok_then (losing old.files p (was ∷ []) s) (replaced_in old key was new may s) steps made in
        go a.0 a.1 a.2
      where
        go : (cs : List CallRef) → Lost (was ∷ []) cs → replaced_in old key was new may s cs ≡ Ok steps → MayBeDone
        go [] lost h = slot_doable old is key (change.Replace was new) may s there text steps h
        go (c ∷ cs) lost h = each_replaced_doable old is was new may key (c ∷ cs) steps h (lost_there old (was ∷ []) s (c ∷ cs) lost)
    in_doable (change.Set g) may made = plain_doable (change.Set g) may made
    in_doable (change.SetAll gs) may made = plain_doable (change.SetAll gs) may made
    in_doable change.Delete may made = plain_doable change.Delete may made

  -- ---- what they leave

  module _ (after : List Plain) (done : all_stepped steps (plain_trees old) ≡ Some after) where
    abbrev Left : ValueChange → Type 0
    Left c = OneFollowed old s c (plain_trees old) after ⊎ (EachFollowed old s c (plain_trees old) after ⊎ AsNamed old n s c (plain_trees old) after)

    plain_left : (c : ValueChange) (may : MayBeMade c) → changed_steps old n key c may s ≡ Ok steps → Left c
    plain_left c may made = inr (inr (changed_left old is n key s named steps after done c may made))

    here_left : (c : ValueChange) (may : MayBeMade c) → slot_steps old key c may s ≡ Ok steps → Left c
    here_left c may made = inl (record { changed = s; is_changed = inl refl; left = slot_left old is key c may s steps after made done })

    there_left : (c : ValueChange) (may : MayBeMade c) (d : CallRef) → IsFollowed p s d → slot_steps old key c may (slot.Whole d) ≡ Ok steps → Left c
    there_left c may d followed made =
        inl (record { changed = slot.Whole d; is_changed = inr (d, refl, followed); left = slot_left old is key c may (slot.Whole d) steps after made done })

    gained_left : (gs : List Given) (c : ValueChange) (may : MayBeMade c) → slot_steps old key c may (slot_at s (gaining old.files p gs s)) ≡ Ok steps → Left c
    gained_left gs c may made = go (gaining old.files p gs s) refl made
      where
        go : (o : Option CallRef) → gaining old.files p gs s ≡ o → slot_steps old key c may (slot_at s o) ≡ Ok steps → Left c
        go None found h = here_left c may h
        go (Some d) found h = there_left c may d (adds_to_own_value old.files p gs s d found).followed h

    in_left : (c : ValueChange) (may : MayBeMade c) → steps_in old key n c may s ≡ Ok steps → Left c
    in_left (change.Add gs) may made = gained_left gs (change.Add gs) may made
    in_left (change.AddSorted gs) may made = gained_left gs (change.AddSorted gs) may made
    in_left (change.AddAfter g gs) may made =
        let a = ok_then (losing old.files p (g ∷ []) s) (λ cs. slot_steps old key (change.AddAfter g gs) may (slot_first s cs)) steps made in
        go a.0 a.1 a.2
      where
        go : (cs : List CallRef) → Lost (g ∷ []) cs → slot_steps old key (change.AddAfter g gs) may (slot_first s cs) ≡ Ok steps → Left (change.AddAfter g gs)
        go [] lost h = here_left (change.AddAfter g gs) may h
        go (c ∷ cs) lost h = there_left (change.AddAfter g gs) may c (All-head (IsFollowed p s) c cs (loses_own_values old.files p (g ∷ []) s (c ∷ cs) lost)) h
    in_left (change.Remove gs) may made =
        let a = ok_then (losing old.files p gs s) (removed_in old key gs s) steps made in
        go a.0 a.1 a.2
      where
        go : (cs : List CallRef) → Lost gs cs → removed_in old key gs s cs ≡ Ok steps → Left (change.Remove gs)
        go [] lost h = here_left (change.Remove gs) tt h
        go (c ∷ cs) lost h = inr (inl (record {
          values = c ∷ cs;
          are = loses_own_values old.files p gs s (c ∷ cs) lost;
          left = each_removed old is gs key (c ∷ cs) steps h (lost_there old gs s (c ∷ cs) lost) after done;
        }))
    in_left (change.Replace was new) may made =
        let a = ok_then (losing old.files p (was ∷ []) s) (replaced_in old key was new may s) steps made in
        go a.0 a.1 a.2
      where
        go : (cs : List CallRef) → Lost (was ∷ []) cs → replaced_in old key was new may s cs ≡ Ok steps → Left (change.Replace was new)
        go [] lost h = here_left (change.Replace was new) may h
        go (c ∷ cs) lost h = inr (inl (record {
          values = c ∷ cs;
          are = loses_own_values old.files p (was ∷ []) s (c ∷ cs) lost;
          left = each_replaced old is was new may key (c ∷ cs) steps h (lost_there old (was ∷ []) s (c ∷ cs) lost) after done;
        }))
    in_left (change.Set g) may made = plain_left (change.Set g) may made
    in_left (change.SetAll gs) may made = plain_left (change.SetAll gs) may made
    in_left change.Delete may made = plain_left change.Delete may made

-- ---- of the slot that a name names

-- an assigned value, or a call itself, is changed as without following
by_slot : (l : Loaded) (key : List ℕ) (n : ValueName) (c : ValueChange) (may : MayBeMade c) (s : Slot) (steps : List Step) → steps_of l key n c may s ≡ Ok steps
    → (changed_steps l n key c may s ≡ Ok steps) ⊎ (steps_in l key n c may s ≡ Ok steps)
by_slot l key n c may (slot.Whole at_) steps made = inl made
by_slot l key n c may (slot.Element list k) steps made = inr made
by_slot l key n c may (slot.Absent list k) steps made = inr made

-- the place and the slot of a name, and the steps for it
record Reached (old : Loaded) (n : ValueName) (c : ValueChange) (may : MayBeMade c) (steps : List Step) : Type 0 where
  place : CallRef
  is_place : the_place old n.place ≡ Ok place
  named : Slot
  is_named : the_slot (project old) place n.keys ≡ Ok named
  made : (changed_steps old n (last_key n.keys) c may named ≡ Ok steps) ⊎ (steps_in old (last_key n.keys) n c may named ≡ Ok steps)

reached : (old : Loaded) (n : ValueName) (c : ValueChange) (may : MayBeMade c) (steps : List Step) → followed_steps old n c may ≡ Ok steps → Reached old n c may steps
reached old n c may steps made =
    let key = last_key n.keys in
    let q = ok_then (the_place old n.place) (λ q. then_ok (the_slot (project old) q n.keys) (λ s. named_steps old n key c may s)) steps made in
    let s = ok_then (the_slot (project old) q.0 n.keys) (λ s. named_steps old n key c may s) steps q.2 in
    let u = ok_then (checked_name (project old) key c s.0) (λ _. steps_of old key n c may s.0) steps s.2 in
    record { place = q.0; is_place = q.1; named = s.0; is_named = s.1; made = by_slot old key n c may s.0 steps u.2 }

pub followed_steps_are_doable : FollowedStepsAreDoable
followed_steps_are_doable old is n texts c may steps made = go r.made
  where
    r : Reached old n c may steps
    r = reached old n c may steps made

    named : IsNamed old n r.named
    named = record { place = r.place; is_place = r.is_place; is_slot = r.is_named }

    there : SlotIsThere (project old) r.named
    there = slots_are_there (project old) r.place n.keys r.named r.is_named

    text : KeyIsText r.named
    text = key_is_text old r.place n.keys texts r.named r.is_named

    go : (changed_steps old n (last_key n.keys) c may r.named ≡ Ok steps) ⊎ (steps_in old (last_key n.keys) n c may r.named ≡ Ok steps) → AreDoable steps (plain_trees old)
    go (inl h) = plain_doable old is n (last_key n.keys) r.named named there steps text c may h
    go (inr h) = in_doable old is n (last_key n.keys) r.named named there steps text c may h

pub followed_steps_leave : FollowedStepsLeave
followed_steps_leave old is n c may steps after made done =
    record { place = r.place; is_place = r.is_place; named = r.named; is_named = r.is_named; is_there = there; left = go r.made }
  where
    r : Reached old n c may steps
    r = reached old n c may steps made

    named : IsNamed old n r.named
    named = record { place = r.place; is_place = r.is_place; is_slot = r.is_named }

    there : SlotIsThere (project old) r.named
    there = slots_are_there (project old) r.place n.keys r.named r.is_named

    go : (changed_steps old n (last_key n.keys) c may r.named ≡ Ok steps) ⊎ (steps_in old (last_key n.keys) n c may r.named ≡ Ok steps)
        → OneFollowed old r.named c (plain_trees old) after ⊎ (EachFollowed old r.named c (plain_trees old) after ⊎ AsNamed old n r.named c (plain_trees old) after)
    go (inl h) = plain_left old is n (last_key n.keys) r.named named there steps after done c may h
    go (inr h) = in_left old is n (last_key n.keys) r.named named there steps after done c may h
