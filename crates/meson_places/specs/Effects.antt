-- What is there after a change of one value: the value that was named, and all else as it was.
use Rattle.std.specs.Prelude.{◌≡◌, ◌⊎◌, ℕ, true, false, List, [], ◌∷◌, map, is_some, Some, None, Ok}
use Rattle.std.specs.List.{list_all}
use Rattle.meson_lex.specs.declared.kinds.Span.{Span}
use Rattle.meson_splice.specs.Files.{bytes_at}
use Rattle.meson_syntax.specs.Tree.{Expression, Nowhere, Plain, erase_expression}
use Rattle.meson_edit.specs.Edits.{Written}
use Rattle.meson_calls.specs.declared.call.CallRef.{CallRef}
use Rattle.meson_calls.specs.Calls.{literal_of}
use Rattle.meson_calls.specs.Loading.{Loaded, project}
use Rattle.meson_calls.specs.Project.{Placed, child, expression_at}
use Rattle.meson_steps.specs.declared.argument.ValueChange.{ValueChange}
use Rattle.meson_steps.specs.declared.argument.ValueChange.TheVariants as change
use Rattle.meson_steps.specs.declared.argument.ValueName.{ValueName}
use Rattle.meson_steps.specs.declared.given.Given.{Given}
use Rattle.meson_steps.specs.GivenWords.{MayBeGiven}
use Rattle.meson_places.specs.declared.slots.Slot.{Slot}
use Rattle.meson_places.specs.declared.slots.Slot.TheVariants as slot
use Rattle.meson_places.specs.ArrayEffects.{HasValues}
use Rattle.meson_places.specs.AssignedEffects.{AllChanged}
use Rattle.meson_places.specs.Behind.{placed_value}
use Rattle.meson_places.specs.BehindLaws.{IsChanged}
use Rattle.meson_places.specs.Changes.{element_child, replaces_texts}
use Rattle.meson_places.specs.Equality.{lists_say, says}
use Rattle.meson_places.specs.Expressions.{ExpressionIs}
use Rattle.meson_places.specs.KeyEffects.{ArrayAdded, ArraySet, GivenAdded}
use Rattle.meson_places.specs.AssignedValues.{is_assigned, statement_of}
use Rattle.meson_places.specs.Laws.{AssignedIs, HasAlso, IsWithout, MaySet, PutBehind, SlotIs, SlotIsThere}
use Rattle.meson_places.specs.Names.{the_place}
use Rattle.meson_places.specs.NewElements.{array_with, fresh_written, lone_token}
use Rattle.meson_places.specs.SaidElements.{elements_left, says_one, value_left}
use Rattle.meson_places.specs.Several.{AllMayBeGiven, written_array}
use Rattle.meson_places.specs.Slots.{Child, the_slot}
use Rattle.meson_places.specs.SortedEffects.{SortedInto}
use Rattle.meson_places.specs.ValueLists.{ValueList, last_of, lists_of}
use Rattle.meson_places.specs.Values.{given_node, keeps_kind}

-- A value that was there may be set to the given one. Where it keeps its kind, that is the value now, and all else is as it was. Where a text takes the place
-- of an array of texts, it is the only element of the array.
pub record SetLeft (old : Loaded) (g : Given) (list : CallRef) (n : ℕ) (before after : List Plain) : Type 0 where
  pub may_set : MaySet old g list n
  pub may : MayBeGiven g
  pub now : keeps_kind g may_set.value ≡ true → SlotIs list n (given_node g may) before after
  pub alone : (v : Child Span) → element_child (project old) list n ≡ Some v → keeps_kind g v.value ≡ false → replaces_texts g v.value ≡ true
      → HasValues (child list v.number) (given_node g may ∷ []) before after

-- An assigned value was there, and may be set to the given one. Where it keeps its kind, the assignment assigns that value now, and all else is as it was.
-- Where a text takes the place of an array of texts, it is the only element of the array.
pub record AssignedSet (old : Loaded) (g : Given) (c : CallRef) (before after : List Plain) : Type 0 where
  pub value : Expression Span
  pub is_value : expression_at (project old) c ≡ Some value
  pub assigned : is_assigned (project old) c ≡ true
  pub kept : (keeps_kind g value ≡ true) ⊎ (replaces_texts g value ≡ true)
  pub may : MayBeGiven g
  pub now : keeps_kind g value ≡ true → AssignedIs (statement_of c) (given_node g may) before after
  pub alone : keeps_kind g value ≡ false → replaces_texts g value ≡ true → HasValues c (given_node g may ∷ []) before after

-- The last list of a value has also the new ones.
pub record AddedTo (old : Loaded) (gs : List Given) (may : AllMayBeGiven gs) (c : CallRef) (e : Expression Span) (before after : List Plain) : Type 0 where
  pub list : ValueList Span
  pub is_last : last_of (lists_of c e) ≡ Some list
  pub now : HasAlso list.place (map (λ w. w.node) (fresh_written (lists_say (bytes_at c.file old.files) (lists_of c e)) [] gs may)) before after

-- a value is the array of it and the new ones now, or nothing is changed where there are none
abbrev pub IsBeside : CallRef → ℕ → Written (Expression Nowhere) → List (Written (Expression Nowhere)) → (before after : List Plain) → Type 0
IsBeside list n old [] before after = after ≡ before
IsBeside list n old (w ∷ ws) before after = SlotIs list n (array_with old (w ∷ ws)).node before after

-- A literal or an identifier is.
pub record AddedBeside (old : Loaded) (gs : List Given) (may : AllMayBeGiven gs) (list : CallRef) (n : ℕ) (e : Expression Span) (before after : List Plain)
    : Type 0 where
  pub token : List ℕ
  pub is_token : lone_token e ≡ Some token
  pub now : IsBeside list n (record { bytes = token; node = erase_expression e }) (fresh_written (λ g. says (bytes_at list.file old.files) g e) [] gs may)
      before after

-- so it is of the value of an element
pub record ElementAdded (old : Loaded) (gs : List Given) (list : CallRef) (n : ℕ) (before after : List Plain) : Type 0 where
  pub may : AllMayBeGiven gs
  pub value : Child Span
  pub is_value : element_child (project old) list n ≡ Some value
  pub added : AddedTo old gs may (child list value.number) value.value before after ⊎ AddedBeside old gs may list n value.value before after

-- an assignment assigns the array of its value and the new ones now, or nothing is changed where there are none
abbrev pub IsAssignedBeside : CallRef → Written (Expression Nowhere) → List (Written (Expression Nowhere)) → (before after : List Plain) → Type 0
IsAssignedBeside c old [] before after = after ≡ before
IsAssignedBeside c old (w ∷ ws) before after = AssignedIs (statement_of c) (array_with old (w ∷ ws)).node before after

-- So it is of a literal or an identifier that is assigned.
pub record AssignedBeside (old : Loaded) (gs : List Given) (may : AllMayBeGiven gs) (c : CallRef) (e : Expression Span) (before after : List Plain)
    : Type 0 where
  pub assigned : is_assigned (project old) c ≡ true
  pub token : List ℕ
  pub is_token : lone_token e ≡ Some token
  pub now : IsAssignedBeside c (record { bytes = token; node = erase_expression e }) (fresh_written (λ g. says (bytes_at c.file old.files) g e) [] gs may)
      before after

-- of the expression at a place, which has a list, or is assigned
pub record WholeAdded (old : Loaded) (gs : List Given) (c : CallRef) (before after : List Plain) : Type 0 where
  pub may : AllMayBeGiven gs
  pub value : Expression Span
  pub is_value : expression_at (project old) c ≡ Some value
  pub added : AddedTo old gs may c value before after ⊎ AssignedBeside old gs may c value before after

-- Values are put in their places in the last list of the value of an element. A literal or an identifier is the array of it and the new ones, as without an
-- order.
pub record ElementSorted (old : Loaded) (gs : List Given) (list : CallRef) (n : ℕ) (before after : List Plain) : Type 0 where
  pub may : AllMayBeGiven gs
  pub value : Child Span
  pub is_value : element_child (project old) list n ≡ Some value
  pub added : SortedInto old gs may (child list value.number) value.value before after ⊎ AddedBeside old gs may list n value.value before after

-- so it is of the expression at a place
pub record WholeSorted (old : Loaded) (gs : List Given) (c : CallRef) (before after : List Plain) : Type 0 where
  pub may : AllMayBeGiven gs
  pub value : Expression Span
  pub is_value : expression_at (project old) c ≡ Some value
  pub added : SortedInto old gs may c value before after ⊎ AssignedBeside old gs may c value before after

-- A literal that was assigned has become the array of several values.
pub record AssignedArray (old : Loaded) (gs : List Given) (c : CallRef) (before after : List Plain) : Type 0 where
  pub may : AllMayBeGiven gs
  pub value : Expression Span
  pub is_value : expression_at (project old) c ≡ Some value
  pub assigned : is_assigned (project old) c ≡ true
  pub literal : is_some (literal_of value) ≡ true
  pub now : AssignedIs (statement_of c) (written_array gs may).node before after

-- The value of a slot was there, and the values were put after the first element of its lists that said another one.
pub record ValuesPutBehind (old : Loaded) (it : Given) (gs : List Given) (s : Slot) (before after : List Plain) : Type 0 where
  pub may : AllMayBeGiven gs
  pub value : Placed (Expression Span)
  pub is_value : placed_value (project old) s ≡ Some value
  pub put : PutBehind old it gs may value.place value.it before after

-- ---- removed

-- Each of the values was said by an element of a list of the value at a place. Now its lists have those elements that say none of them, in their order.
pub record ListsLost (old : Loaded) (gs : List Given) (c : CallRef) (e : Expression Span) (before after : List Plain) : Type 0 where
  pub all_said : list_all (lists_say (bytes_at c.file old.files) (lists_of c e)) gs ≡ true
  pub now : ExpressionIs c (value_left (elements_left None (says_one (bytes_at c.file old.files) gs)) e) before after

-- A value without a list said each of them, and is gone with its argument or entry.
pub record LoneLost (old : Loaded) (gs : List Given) (list : CallRef) (n : ℕ) (e : Expression Span) (before after : List Plain) : Type 0 where
  pub all_said : list_all (λ g. says (bytes_at list.file old.files) g e) gs ≡ true
  pub now : IsWithout list n before after

pub record ElementRemoved (old : Loaded) (gs : List Given) (list : CallRef) (n : ℕ) (before after : List Plain) : Type 0 where
  pub value : Child Span
  pub is_value : element_child (project old) list n ≡ Some value
  pub removed : ListsLost old gs (child list value.number) value.value before after ⊎ LoneLost old gs list n value.value before after

pub record WholeRemoved (old : Loaded) (gs : List Given) (c : CallRef) (before after : List Plain) : Type 0 where
  pub value : Expression Span
  pub is_value : expression_at (project old) c ≡ Some value
  pub removed : ListsLost old gs c value before after

-- ---- replaced

-- An element of a list of the value at a place said the old value, and none said the new one. Now its lists have as many elements, of which those that said the
-- old one are the new one.
pub record ListsExchanged (old : Loaded) (was new : Given) (may : MayBeGiven new) (c : CallRef) (e : Expression Span) (before after : List Plain) : Type 0 where
  pub was_said : lists_say (bytes_at c.file old.files) (lists_of c e) was ≡ true
  pub is_new : lists_say (bytes_at c.file old.files) (lists_of c e) new ≡ false
  pub now : ExpressionIs c (value_left (elements_left (Some (given_node new may)) (says_one (bytes_at c.file old.files) (was ∷ []))) e) before after

-- A value without a list said the old value, and is the new one.
pub record LoneExchanged (old : Loaded) (was new : Given) (may : MayBeGiven new) (list : CallRef) (n : ℕ) (e : Expression Span) (before after : List Plain)
    : Type 0 where
  pub was_said : says (bytes_at list.file old.files) was e ≡ true
  pub now : SlotIs list n (given_node new may) before after

pub record ElementReplaced (old : Loaded) (was new : Given) (list : CallRef) (n : ℕ) (before after : List Plain) : Type 0 where
  pub may : MayBeGiven new
  pub value : Child Span
  pub is_value : element_child (project old) list n ≡ Some value
  pub replaced : ListsExchanged old was new may (child list value.number) value.value before after
      ⊎ LoneExchanged old was new may list n value.value before after

-- An assigned value without a list said the old value, and is the new one.
pub record AssignedExchanged (old : Loaded) (was new : Given) (may : MayBeGiven new) (c : CallRef) (e : Expression Span) (before after : List Plain)
    : Type 0 where
  pub assigned : is_assigned (project old) c ≡ true
  pub was_said : says (bytes_at c.file old.files) was e ≡ true
  pub now : AssignedIs (statement_of c) (given_node new may) before after

pub record WholeReplaced (old : Loaded) (was new : Given) (c : CallRef) (before after : List Plain) : Type 0 where
  pub may : MayBeGiven new
  pub value : Expression Span
  pub is_value : expression_at (project old) c ≡ Some value
  pub replaced : ListsExchanged old was new may c value before after ⊎ AssignedExchanged old was new may c value before after

-- what a change leaves of a slot
abbrev pub SlotLeft : Loaded → ValueChange → Slot → (before after : List Plain) → Type 0
SlotLeft old (change.Set g) (slot.Element list n) before after = SetLeft old g list n before after
SlotLeft old (change.Set g) (slot.Absent list key) before after = GivenAdded old g list key before after
SlotLeft old (change.Set g) (slot.Whole c) before after = AssignedSet old g c before after
SlotLeft old (change.SetAll gs) (slot.Element list n) before after = ArraySet old gs list n before after
SlotLeft old (change.SetAll gs) (slot.Absent list key) before after = ArrayAdded old gs list key before after
SlotLeft old (change.SetAll gs) (slot.Whole c) before after = AssignedArray old gs c before after
SlotLeft old (change.Add gs) (slot.Element list n) before after = ElementAdded old gs list n before after
SlotLeft old (change.Add gs) (slot.Absent list key) before after = ArrayAdded old gs list key before after
SlotLeft old (change.Add gs) (slot.Whole c) before after = WholeAdded old gs c before after
SlotLeft old (change.AddAfter g gs) s before after = ValuesPutBehind old g gs s before after
SlotLeft old (change.AddSorted gs) (slot.Element list n) before after = ElementSorted old gs list n before after
SlotLeft old (change.AddSorted gs) (slot.Absent list key) before after = ArrayAdded old gs list key before after
SlotLeft old (change.AddSorted gs) (slot.Whole c) before after = WholeSorted old gs c before after
SlotLeft old (change.Remove gs) (slot.Element list n) before after = ElementRemoved old gs list n before after
SlotLeft old (change.Remove gs) (slot.Whole c) before after = WholeRemoved old gs c before after
SlotLeft old (change.Replace was new) (slot.Element list n) before after = ElementReplaced old was new list n before after
SlotLeft old (change.Replace was new) (slot.Whole c) before after = WholeReplaced old was new c before after
SlotLeft old change.Delete (slot.Element list n) before after = IsWithout list n before after
SlotLeft old change.Delete (slot.Absent list key) before after = after ≡ before
SlotLeft old _ _ before after = Unit {0}

-- The change leaves this of the slot that is named; or of the value of a variable that nobody else reads, where its value is that one; or of what is added to
-- the variable that is named.
pub record OneChanged (old : Loaded) (name : ValueName) (named : Slot) (c : ValueChange) (before after : List Plain) : Type 0 where
  pub changed : Slot
  pub is_changed : IsChanged old name named changed
  pub left : SlotLeft old c changed before after

-- The name leads to one slot, which is there. Its value is changed, or all values that are assigned to the variable that is named.
pub record ValueLeft (old : Loaded) (name : ValueName) (c : ValueChange) (before after : List Plain) : Type 0 where
  pub place : CallRef
  pub is_place : the_place old name.place ≡ Ok place
  pub named : Slot
  pub is_named : the_slot (project old) place name.keys ≡ Ok named
  pub is_there : SlotIsThere (project old) named
  pub left : OneChanged old name named c before after ⊎ AllChanged old name named c before after
