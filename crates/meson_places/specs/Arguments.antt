-- The steps of a change of one value, which is named by a place and keys.
use Rattle.std.specs.Prelude.{ℕ, Bool, List, [], ◌∷◌, codes, if◌then◌else◌, Result, Ok, Err}
use Rattle.meson_splice.specs.Patch.{then_ok}
use Rattle.meson_syntax.specs.Tree.{Expression, Nowhere}
use Rattle.meson_edit.specs.Edits.{Written}
use Rattle.meson_calls.specs.declared.refusal.Refusal.{Refusal}
use Rattle.meson_calls.specs.declared.refusal.Refusal.TheVariants.{TooDeep}
use Rattle.meson_calls.specs.Loading.{Loaded, project}
use Rattle.meson_steps.specs.ResultLimits.{plain_trees}
use Rattle.meson_steps.specs.Steps.{Step}
use Rattle.meson_steps.specs.declared.argument.ValueChange.{ValueChange}
use Rattle.meson_steps.specs.declared.argument.ValueChange.TheVariants as change
use Rattle.meson_steps.specs.declared.argument.ValueName.{ValueName}
use Rattle.meson_places.specs.declared.slots.Slot.{Slot}
use Rattle.meson_places.specs.declared.slots.Slot.TheVariants as slot
use Rattle.meson_steps.specs.declared.given.Given.{Given}
use Rattle.meson_places.specs.AllAssigned.{remove_from_all, replace_in_all}
use Rattle.meson_places.specs.AssignedArrays.{added_steps, set_all_steps}
use Rattle.meson_places.specs.AssignedValues.{assigned_room}
use Rattle.meson_places.specs.Assignments.{changed_slot}
use Rattle.meson_places.specs.Changes.{delete_steps, set_steps}
use Rattle.meson_places.specs.Names.{the_place}
use Rattle.meson_places.specs.Insertions.{insert_steps}
use Rattle.meson_places.specs.Removals.{remove_steps}
use Rattle.meson_places.specs.Replacements.{exchange, exchange_steps}
use Rattle.meson_places.specs.Room.{has_room, list_in_trees}
use Rattle.meson_places.specs.Several.{AllMayBeGiven}
use Rattle.meson_places.specs.Slots.{the_slot}
use Rattle.meson_places.specs.SortedAdditions.{sorted_steps}
use Rattle.meson_places.specs.TargetNames.{checked_name}
use Rattle.meson_steps.specs.GivenWords.{MayBeGiven}
use Rattle.meson_places.specs.Values.{written_given}

-- the key that a refusal names: the last one, or `.` for the thing itself
abbrev pub last_key : List (List ℕ) → List ℕ
last_key [] = codes "."
last_key (key ∷ []) = key
last_key (key ∷ next ∷ keys) = last_key (next ∷ keys)

-- whether there is room for a value in its list or its assignment
abbrev pub room_at : Loaded → Slot → Expression Nowhere → Bool
room_at l (slot.Element list n) e = has_room e (list_in_trees (plain_trees l) list)
room_at l (slot.Absent list key) e = has_room e (list_in_trees (plain_trees l) list)
room_at l (slot.Whole c) e = assigned_room c e

abbrev pub if_room_at : Loaded → Slot → Expression Nowhere → List Step → Result (List Step) Refusal
if_room_at l s e steps = if room_at l s e then Ok steps else Err TooDeep

abbrev pub set_within : Loaded → Given → Written (Expression Nowhere) → (key : List ℕ) → Slot → Result (List Step) Refusal
set_within l g w key s = then_ok (set_steps l g w key s) (if_room_at l s w.node)

-- the values that a change writes may be given
abbrev pub MayBeMade : ValueChange → Type 0
MayBeMade (change.Set g) = MayBeGiven g
MayBeMade (change.SetAll gs) = AllMayBeGiven gs
MayBeMade (change.Add gs) = AllMayBeGiven gs
MayBeMade (change.AddAfter g gs) = AllMayBeGiven gs
MayBeMade (change.AddSorted gs) = AllMayBeGiven gs
MayBeMade (change.Remove gs) = Unit {0}
MayBeMade (change.Replace old new) = MayBeGiven new
MayBeMade change.Delete = Unit {0}

abbrev pub slot_steps : Loaded → (key : List ℕ) → (c : ValueChange) → MayBeMade c → Slot → Result (List Step) Refusal
slot_steps l key (change.Set g) may s = set_within l g (written_given g may) key s
slot_steps l key (change.SetAll gs) may s = set_all_steps l gs may key s
slot_steps l key (change.Add gs) may s = added_steps l gs may key s
slot_steps l key (change.AddAfter g gs) may s = insert_steps l g gs may key s
slot_steps l key (change.AddSorted gs) may s = sorted_steps l gs may key s
slot_steps l key (change.Remove gs) may s = remove_steps l gs key s
slot_steps l key (change.Replace old new) may s = exchange_steps l (exchange old new may) key s
slot_steps l key change.Delete may s = delete_steps s

-- of the value that is named, of that of a variable, or of what is added to a variable
abbrev pub one_changed : Loaded → ValueName → (key : List ℕ) → (c : ValueChange) → MayBeMade c → Slot → Result (List Step) Refusal
one_changed l n key c may s = then_ok (changed_slot l.files (project l) n c s) (slot_steps l key c may)

-- the same, unless elements of all values that are assigned to a variable are removed or replaced
abbrev pub changed_by : Loaded → ValueName → (key : List ℕ) → (c : ValueChange) → MayBeMade c → Slot → (one : Result (List Step) Refusal)
    → Result (List Step) Refusal
changed_by l n key (change.Remove gs) may s one = remove_from_all l n key gs s one
changed_by l n key (change.Replace old new) may s one = replace_in_all l n key (exchange old new may) s one
changed_by l n key _ may s one = one

abbrev pub changed_steps : Loaded → ValueName → (key : List ℕ) → (c : ValueChange) → MayBeMade c → Slot → Result (List Step) Refusal
changed_steps l n key c may s = changed_by l n key c may s (one_changed l n key c may s)

-- the same, unless the value is a text that becomes the name of a target, and another target has that name
abbrev pub named_steps : Loaded → ValueName → (key : List ℕ) → (c : ValueChange) → MayBeMade c → Slot → Result (List Step) Refusal
named_steps l n key c may s = then_ok (checked_name (project l) key c s) (λ _. changed_steps l n key c may s)

-- the steps that change the value of a name
abbrev pub argument_steps : Loaded → ValueName → (c : ValueChange) → MayBeMade c → Result (List Step) Refusal
argument_steps l n c may =
    then_ok (the_place l n.place) (λ p. then_ok (the_slot (project l) p n.keys) (λ s. named_steps l n (last_key n.keys) c may s))
