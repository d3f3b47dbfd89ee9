-- The name that a change gives a target: no other target may have it.
use Rattle.std.specs.Prelude.{ℕ, ◌==◌, Bool, false, not, ◌&&◌, List, bytes_eq, if◌then◌else◌, Option, Some, None, Result, Ok, Err}
use Rattle.std.specs.List.{list_any}
use Rattle.meson_calls.specs.declared.call.CallRef.{CallRef}
use Rattle.meson_calls.specs.declared.call.Role.TheVariants as role
use Rattle.meson_calls.specs.declared.refusal.Refusal.{Refusal}
use Rattle.meson_calls.specs.declared.refusal.Refusal.TheVariants.{NameTaken}
use Rattle.meson_calls.specs.ChosenNotes.{note_has_name, places_that}
use Rattle.meson_calls.specs.Notes.{notes}
use Rattle.meson_calls.specs.Project.{Project}
use Rattle.meson_calls.specs.Roles.{is_target}
use Rattle.meson_steps.specs.declared.argument.ValueChange.{ValueChange}
use Rattle.meson_steps.specs.declared.argument.ValueChange.TheVariants as change
use Rattle.meson_steps.specs.declared.given.Given.{Given}
use Rattle.meson_steps.specs.declared.given.Given.TheVariants as given
use Rattle.meson_places.specs.declared.slots.Slot.{Slot}
use Rattle.meson_places.specs.declared.slots.Slot.TheVariants as slot
use Rattle.meson_places.specs.Slots.{number_of}

-- the key of the first argument without a name
abbrev pub is_first : Option ℕ → Bool
is_first None = false
is_first (Some n) = n == 0

abbrev pub is_same : CallRef → CallRef → Bool
is_same c d = c.file == d.file && bytes_eq c.path.steps d.path.steps

-- whether another call than that at a place is one of a target whose name is this text
abbrev pub is_taken : {S : Type 0} → Project S → CallRef → (name : List ℕ) → Bool
is_taken p c name = list_any (λ d. not (is_same d c)) (places_that (note_has_name role.Target name) (notes p))

-- a text for the first argument of the call of a target
abbrev pub checked_text : {S : Type 0} → Project S → (key : List ℕ) → (text : List ℕ) → CallRef → Result (Unit {0}) Refusal
checked_text p key text c = if is_first (number_of key) && (is_target p c && is_taken p c text) then Err NameTaken else Ok tt

abbrev pub checked_given : {S : Type 0} → Project S → (key : List ℕ) → Given → Slot → Result (Unit {0}) Refusal
checked_given p key (given.Text text) (slot.Element list n) = checked_text p key text list
checked_given p key _ _ = Ok tt

abbrev pub checked_name : {S : Type 0} → Project S → (key : List ℕ) → ValueChange → Slot → Result (Unit {0}) Refusal
checked_name p key (change.Set g) s = checked_given p key g s
checked_name p key (change.Replace old new) s = checked_given p key new s
checked_name p key _ s = Ok tt
