-- Values that are variables: the slot whose value is changed is then that of what the variable is set to.
use Rattle.std.specs.Prelude.{ℕ, Bool, false, not, ◌&&◌, List, [], ◌∷◌, if◌then◌else◌, Option, Some, None, option_and_then, option_map, Result, Ok, Err}
use Rattle.std.specs.List.{list_all, list_any}
use Rattle.meson_lex.specs.declared.kinds.Span.{Span}
use Rattle.meson_splice.specs.declared.file_set.File.{File}
use Rattle.meson_splice.specs.Files.{bytes_at}
use Rattle.meson_syntax.specs.Tree.{Expression, identifier}
use Rattle.meson_edit.specs.Edits.{is_empty}
use Rattle.meson_calls.specs.declared.call.CallRef.{CallRef}
use Rattle.meson_calls.specs.declared.refusal.Refusal.{Refusal}
use Rattle.meson_calls.specs.declared.refusal.Refusal.TheVariants.{Shared}
use Rattle.meson_calls.specs.Project.{Placed, Project, expression_at, placed}
use Rattle.meson_variables.specs.Variables.{single}
use Rattle.meson_steps.specs.declared.argument.ValueChange.{ValueChange}
use Rattle.meson_steps.specs.declared.argument.ValueChange.TheVariants as change
use Rattle.meson_steps.specs.declared.given.Given.{Given}
use Rattle.meson_steps.specs.declared.given.Given.TheVariants as given
use Rattle.meson_places.specs.declared.slots.Slot.{Slot}
use Rattle.meson_places.specs.declared.slots.Slot.TheVariants as slot
use Rattle.meson_places.specs.Changes.{slot_place}
use Rattle.meson_places.specs.Equality.{lists_say, says}
use Rattle.meson_places.specs.Uses.{is_read_once}
use Rattle.meson_places.specs.ValueLists.{ValueList, lists_of}

-- ---- variables

-- the value of a slot, with its place
abbrev pub placed_at : {S : Type 0} → Project S → CallRef → Option (Placed (Expression S))
placed_at p c = option_map (placed c) (expression_at p c)

abbrev pub placed_value : {S : Type 0} → Project S → Slot → Option (Placed (Expression S))
placed_value p s = option_and_then (placed_at p) (slot_place p s)

abbrev pub variable_of : {S : Type 0} → Expression S → Option (List ℕ)
variable_of (identifier s x) = Some x
variable_of _ = None

-- a variable, the place where it is read, and that of the one value that it is set to
pub record Behind : Type 0 where
  pub variable : List ℕ
  pub read_at : CallRef
  pub value_at : CallRef

abbrev pub behind : {S : Type 0} → Project S → CallRef → List ℕ → Option Behind
behind p c x = option_map (λ v. record { variable = x; read_at = c; value_at = v.place }) (single p x)

-- of a value that does not say one of some values itself
abbrev pub behind_value : List File → Project Span → List Given → Placed (Expression Span) → Option Behind
behind_value files p gs v =
    if list_any (λ g. says (bytes_at v.place.file files) g v.it) gs then None else option_and_then (behind p v.place) (variable_of v.it)

-- of the value of a slot
abbrev pub behind_slot : List File → Project Span → List Given → Slot → Option Behind
behind_slot files p gs s = option_and_then (behind_value files p gs) (placed_value p s)

-- ---- their lists

abbrev pub lists_in : CallRef → Option (Expression Span) → List (ValueList Span)
lists_in c None = []
lists_in c (Some e) = lists_of c e

-- the lists of the value at a place
abbrev pub lists_at : Project Span → CallRef → List (ValueList Span)
lists_at p c = lists_in c (expression_at p c)

-- whether an element of them says one of some values
abbrev pub says_one_in : (source : List ℕ) → List Given → CallRef → Option (Expression Span) → Bool
says_one_in source gs c None = false
says_one_in source gs c (Some e) = list_any (lists_say source (lists_of c e)) gs

abbrev pub says_one_at : List File → Project Span → List Given → CallRef → Bool
says_one_at files p gs c = says_one_in (bytes_at c.file files) gs c (expression_at p c)

abbrev pub has_lists : Project Span → CallRef → Bool
has_lists p c = not (is_empty (lists_at p c))

-- whether elements of the lists of a value say each of some values
abbrev pub says_all_in : (source : List ℕ) → List Given → CallRef → Option (Expression Span) → Bool
says_all_in source gs c None = false
says_all_in source gs c (Some e) = list_all (lists_say source (lists_of c e)) gs

abbrev pub says_all_at : List File → Project Span → List Given → CallRef → Bool
says_all_at files p gs c = says_all_in (bytes_at c.file files) gs c (expression_at p c)

-- ---- choices

abbrev pub first_that : {X : Type 0} → (X → Bool) → List X → Option X
first_that test [] = None
first_that test (x ∷ xs) = if test x then Some x else first_that test xs

abbrev pub or_first : {X : Type 0} → Option X → Option X → Option X
or_first None o = o
or_first (Some x) o = Some x

abbrev pub slot_at_value : (otherwise : Result Slot Refusal) → Option CallRef → Result Slot Refusal
slot_at_value otherwise None = otherwise
slot_at_value otherwise (Some c) = Ok (slot.Whole c)

-- ---- the slot that is changed

-- whether the value of a variable has a list, and nothing else reads the variable
abbrev pub gains : List File → Project Span → Behind → Bool
gains files p b = has_lists p b.value_at && is_read_once files p b.variable b.read_at

-- Values are added to the lists of the variable's value, where it has some and nothing else reads the variable.
abbrev pub added_slot : List File → Project Span → Slot → Option Behind → Result Slot Refusal
added_slot files p s None = Ok s
added_slot files p s (Some b) = Ok (if gains files p b then slot.Whole b.value_at else s)

abbrev pub own_slot : List File → Project Span → Behind → Result Slot Refusal
own_slot files p b = if is_read_once files p b.variable b.read_at then Ok (slot.Whole b.value_at) else Err (Shared b.variable)

-- An element of them is removed or replaced, or gets values after it, only where nothing else reads the variable.
abbrev pub said_slot : List File → Project Span → List Given → Slot → Option Behind → Result Slot Refusal
said_slot files p gs s None = Ok s
said_slot files p gs s (Some b) = if says_one_at files p gs b.value_at then own_slot files p b else Ok s

-- A text or a truth value comes in the place of what the variable is set to, if nothing else reads the variable.
abbrev pub word_slot : List File → Project Span → Slot → Option Behind → Result Slot Refusal
word_slot files p s None = Ok s
word_slot files p s (Some b) = own_slot files p b

-- Code comes in the place of the variable itself.
abbrev pub set_slot : List File → Project Span → Given → Slot → Result Slot Refusal
set_slot files p (given.Text text) s = word_slot files p s (behind_slot files p [] s)
set_slot files p (given.Switch b) s = word_slot files p s (behind_slot files p [] s)
set_slot files p (given.Code code) s = Ok s

abbrev pub slot_behind : List File → Project Span → ValueChange → Slot → Result Slot Refusal
slot_behind files p (change.Set g) s = set_slot files p g s
slot_behind files p (change.Add gs) s = added_slot files p s (behind_slot files p gs s)
slot_behind files p (change.AddSorted gs) s = added_slot files p s (behind_slot files p gs s)
slot_behind files p (change.AddAfter g gs) s = said_slot files p (g ∷ []) s (behind_slot files p (g ∷ []) s)
slot_behind files p (change.Remove gs) s = said_slot files p gs s (behind_slot files p gs s)
slot_behind files p (change.Replace old new) s = said_slot files p (old ∷ []) s (behind_slot files p (old ∷ []) s)
slot_behind files p _ s = Ok s
