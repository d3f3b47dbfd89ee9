-- The steps of a change of one value, which is named by a place and keys, where variables are followed.
use Rattle.std.specs.Prelude.{ℕ, List, [], ◌∷◌, Option, Some, None, option_and_then, Result, Ok}
use Rattle.meson_lex.specs.declared.kinds.Span.{Span}
use Rattle.meson_splice.specs.declared.file_set.File.{File}
use Rattle.meson_splice.specs.Patch.{then_ok}
use Rattle.meson_calls.specs.declared.call.CallRef.{CallRef}
use Rattle.meson_calls.specs.declared.refusal.Refusal.{Refusal}
use Rattle.meson_calls.specs.Loading.{Loaded, project}
use Rattle.meson_calls.specs.Project.{Project}
use Rattle.meson_steps.specs.Steps.{Step}
use Rattle.meson_steps.specs.declared.argument.ValueChange.{ValueChange}
use Rattle.meson_steps.specs.declared.argument.ValueChange.TheVariants as change
use Rattle.meson_steps.specs.declared.argument.ValueName.{ValueName}
use Rattle.meson_steps.specs.declared.given.Given.{Given}
use Rattle.meson_places.specs.declared.slots.Slot.{Slot}
use Rattle.meson_places.specs.declared.slots.Slot.TheVariants as slot
use Rattle.meson_places.specs.AllAssigned.{remove_each, replace_each}
use Rattle.meson_places.specs.Arguments.{MayBeMade, changed_steps, last_key, slot_steps}
use Rattle.meson_places.specs.Changes.{slot_place}
use Rattle.meson_places.specs.Names.{the_place}
use Rattle.meson_places.specs.Replacements.{exchange}
use Rattle.meson_places.specs.Slots.{the_slot}
use Rattle.meson_places.specs.TargetNames.{checked_name}
use Rattle.meson_followed_values.specs.Choices.{gaining_at, losing_at}

-- ---- of a slot

abbrev pub gaining : List File → Project Span → List Given → Slot → Option CallRef
gaining files p gs s = option_and_then (gaining_at files p gs) (slot_place p s)

abbrev pub losing_in : List File → Project Span → List Given → Option CallRef → Result (List CallRef) Refusal
losing_in files p gs None = Ok []
losing_in files p gs (Some c) = losing_at files p gs c

abbrev pub losing : List File → Project Span → List Given → Slot → Result (List CallRef) Refusal
losing files p gs s = losing_in files p gs (slot_place p s)

-- ---- the slot that is changed

-- that of the value at a place, or the one that is named
abbrev pub slot_at : Slot → Option CallRef → Slot
slot_at s None = s
slot_at s (Some c) = slot.Whole c

abbrev pub slot_first : Slot → List CallRef → Slot
slot_first s [] = s
slot_first s (c ∷ cs) = slot.Whole c

-- ---- the steps

module _ (l : Loaded) (key : List ℕ) where
  -- after the first value that says another one
  abbrev pub inserted_for : (g : Given) (gs : List Given) → MayBeMade (change.AddAfter g gs) → Slot → Result (List Step) Refusal
  inserted_for g gs may s = then_ok (losing l.files (project l) (g ∷ []) s) (λ cs. slot_steps l key (change.AddAfter g gs) may (slot_first s cs))

  -- for all values in which something is sought; else for the slot that is named
  abbrev pub removed_in : (gs : List Given) → Slot → List CallRef → Result (List Step) Refusal
  removed_in gs s [] = slot_steps l key (change.Remove gs) tt s
  removed_in gs s (c ∷ cs) = remove_each l key gs (c ∷ cs)

  abbrev pub removed_for : (gs : List Given) → Slot → Result (List Step) Refusal
  removed_for gs s = then_ok (losing l.files (project l) gs s) (removed_in gs s)

  abbrev pub replaced_in : (old new : Given) → MayBeMade (change.Replace old new) → Slot → List CallRef → Result (List Step) Refusal
  replaced_in old new may s [] = slot_steps l key (change.Replace old new) may s
  replaced_in old new may s (c ∷ cs) = replace_each l key (exchange old new may) (c ∷ cs)

  abbrev pub replaced_for : (old new : Given) → MayBeMade (change.Replace old new) → Slot → Result (List Step) Refusal
  replaced_for old new may s = then_ok (losing l.files (project l) (old ∷ []) s) (replaced_in old new may s)

  -- of the values of the variables that the value of a slot has; any other change as without following
  abbrev pub steps_in : ValueName → (c : ValueChange) → MayBeMade c → Slot → Result (List Step) Refusal
  steps_in n (change.Add gs) may s = slot_steps l key (change.Add gs) may (slot_at s (gaining l.files (project l) gs s))
  steps_in n (change.AddSorted gs) may s = slot_steps l key (change.AddSorted gs) may (slot_at s (gaining l.files (project l) gs s))
  steps_in n (change.AddAfter g gs) may s = inserted_for g gs may s
  steps_in n (change.Remove gs) may s = removed_for gs s
  steps_in n (change.Replace old new) may s = replaced_for old new may s
  steps_in n c may s = changed_steps l n key c may s

  -- An assigned value, or a call itself, is changed as without following.
  abbrev pub steps_of : ValueName → (c : ValueChange) → MayBeMade c → Slot → Result (List Step) Refusal
  steps_of n c may (slot.Whole at_) = changed_steps l n key c may (slot.Whole at_)
  steps_of n c may s = steps_in n c may s

-- the same, unless the value is a text that becomes the name of a target, and another target has that name
abbrev pub named_steps : Loaded → ValueName → (key : List ℕ) → (c : ValueChange) → MayBeMade c → Slot → Result (List Step) Refusal
named_steps l n key c may s = then_ok (checked_name (project l) key c s) (λ _. steps_of l key n c may s)

-- the steps that change the value of a name
abbrev pub followed_steps : Loaded → ValueName → (c : ValueChange) → MayBeMade c → Result (List Step) Refusal
followed_steps l n c may =
    then_ok (the_place l n.place) (λ p. then_ok (the_slot (project l) p n.keys) (λ s. named_steps l n (last_key n.keys) c may s))
