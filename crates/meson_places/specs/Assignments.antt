-- The assignments of a variable: a change of its whole value is made to what one of them assigns.
use Rattle.std.specs.Prelude.{not, ◌&&◌, ℕ, List, [], ◌∷◌, bytes_eq, if◌then◌else◌, Option, Some, None, Result, Ok, Err}
use Rattle.std.specs.List.{filter_map, list_all}
use Rattle.meson_lex.specs.declared.kinds.Span.{Span}
use Rattle.meson_splice.specs.declared.file_set.File.{File}
use Rattle.meson_splice.specs.Patch.{then_ok}
use Rattle.meson_calls.specs.declared.call.CallRef.{CallRef}
use Rattle.meson_calls.specs.declared.refusal.Refusal.{Refusal}
use Rattle.meson_calls.specs.declared.refusal.Refusal.TheVariants.{Ambiguous}
use Rattle.meson_calls.specs.Notes.{Note, a_call, an_assignment, a_loop, notes}
use Rattle.meson_calls.specs.Project.{Placed, Project, child}
use Rattle.meson_steps.specs.declared.argument.PlaceName.{PlaceName}
use Rattle.meson_steps.specs.declared.argument.PlaceName.TheVariants as name
use Rattle.meson_steps.specs.declared.argument.ValueChange.{ValueChange}
use Rattle.meson_steps.specs.declared.argument.ValueChange.TheVariants as change
use Rattle.meson_steps.specs.declared.argument.ValueName.{ValueName}
use Rattle.meson_places.specs.declared.slots.Slot.{Slot}
use Rattle.meson_places.specs.declared.slots.Slot.TheVariants as slot
use Rattle.meson_places.specs.Behind.{first_that, has_lists, or_first, says_all_at, says_one_at, slot_at_value}
use Rattle.meson_places.specs.Operands.{followed_slot}
use Rattle.meson_places.specs.Names.{is_searched, searched}

-- ---- what `+=` adds

-- the value that is added to a variable: Meson manual, Syntax, "Variables"
abbrev pub added_value : {S : Type 0} → List ℕ → Placed (Note S) → Option CallRef
added_value x n = elim n.it [
  | a_call c ↦ None
  | an_assignment y sets e ↦ if not sets && bytes_eq y x then Some (child n.place 0) else None
  | a_loop xs ↦ None
]

-- the places of all, in file order and source order
abbrev pub added_values : {S : Type 0} → List ℕ → List (Placed (Note S)) → List CallRef
added_values x ns = filter_map (added_value x) ns

-- Those in the file of the assignment with `=`. Unless a folder is given, there may be no others.
abbrev pub added_beside : (folder : Option (List ℕ)) → CallRef → List CallRef → Result (List CallRef) Refusal
added_beside None c ds = if list_all (is_searched (Some c.file)) ds then Ok ds else Err Ambiguous
added_beside (Some folder) c ds = Ok (searched (Some c.file) ds)

-- ---- which one is changed

-- Values are added to the first value that has a list; unless another one has them all. They are put after a value in the first one that has it.
abbrev pub changed_value : List File → Project Span → ValueChange → List CallRef → Option CallRef
changed_value files p (change.Add gs) cs = or_first (first_that (says_all_at files p gs) cs) (first_that (has_lists p) cs)
changed_value files p (change.AddSorted gs) cs = or_first (first_that (says_all_at files p gs) cs) (first_that (has_lists p) cs)
changed_value files p (change.AddAfter g gs) cs = first_that (says_one_at files p (g ∷ [])) cs
changed_value files p _ cs = None

-- the variable whose whole value is named, and the place of what `=` assigns
abbrev pub whole_variable : PlaceName → (keys : List (List ℕ)) → Slot → Option (List ℕ × CallRef)
whole_variable (name.Variable x) [] (slot.Whole c) = Some (x, c)
whole_variable _ _ _ = None

abbrev pub assigned_value : List File → Project Span → (folder : Option (List ℕ)) → ValueChange → Option (List ℕ × CallRef) → Result (Option CallRef) Refusal
assigned_value files p folder ch None = Ok None
assigned_value files p folder ch (Some v) =
    then_ok (added_beside folder v.1 (added_values v.0 (notes p))) (λ ds. Ok (changed_value files p ch (v.1 ∷ ds)))

-- the slot whose value is changed, of one that is named
abbrev pub changed_slot : List File → Project Span → ValueName → ValueChange → Slot → Result Slot Refusal
changed_slot files p n ch s =
    then_ok (assigned_value files p n.place.folder ch (whole_variable n.place.name n.keys s)) (slot_at_value (followed_slot files p ch s))
