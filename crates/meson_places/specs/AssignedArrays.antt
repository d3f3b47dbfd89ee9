-- An assigned value that becomes an array: of several values, or of it and further ones.
use Rattle.std.specs.Prelude.{nat_eq, ℕ, Bool, false, not, ◌&&◌, List, [], ◌∷◌, if◌then◌else◌, is_some, Option, Some, None, option_map, Result, Ok, Err}
use Rattle.std.specs.List.{list_any}
use Rattle.meson_lex.specs.declared.kinds.Span.{Span}
use Rattle.meson_splice.specs.Files.{bytes_at}
use Rattle.meson_syntax.specs.Tree.{Expression, Nowhere, erase_expression}
use Rattle.meson_edit.specs.Edits.{Written}
use Rattle.meson_calls.specs.declared.call.CallRef.{CallRef}
use Rattle.meson_calls.specs.declared.refusal.Refusal.{Refusal}
use Rattle.meson_calls.specs.declared.refusal.Refusal.TheVariants.{NotLiteral, TooDeep}
use Rattle.meson_calls.specs.Calls.{literal_of}
use Rattle.meson_calls.specs.Loading.{Loaded, project}
use Rattle.meson_calls.specs.Project.{Project, expression_at}
use Rattle.meson_steps.specs.Steps.{Step}
use Rattle.meson_steps.specs.declared.given.Given.{Given}
use Rattle.meson_places.specs.declared.slots.Slot.{Slot}
use Rattle.meson_places.specs.declared.slots.Slot.TheVariants as slot
use Rattle.meson_places.specs.AssignedValues.{assign_steps, assigned_room, is_assigned}
use Rattle.meson_places.specs.Equality.{says}
use Rattle.meson_places.specs.NewElements.{add_steps, array_with, fresh_written, lone_token}
use Rattle.meson_places.specs.Several.{AllMayBeGiven, set_all, written_array}

-- whether a text is on one line
abbrev pub is_line : List ℕ → Bool
is_line text = not (list_any (λ b. nat_eq b 10) text)

-- The assignment assigns the array. It is on one line, since the line of an assignment ends where that of its value does.
abbrev pub array_assigned : (key : List ℕ) → CallRef → Written (Expression Nowhere) → Result (List Step) Refusal
array_assigned key c w = if is_line w.bytes then (if assigned_room c w.node then Ok (assign_steps c w) else Err TooDeep) else Err (NotLiteral key)

-- ---- several values

abbrev pub is_text_in : Project Span → CallRef → Option (Expression Span) → Bool
is_text_in p c None = false
is_text_in p c (Some e) = is_assigned p c && is_some (literal_of e)

-- The expression at a place is a literal that an assignment assigns.
abbrev pub is_text_at : Project Span → CallRef → Bool
is_text_at p c = is_text_in p c (expression_at p c)

-- its place, if it is the value of a slot
abbrev pub assigned_text : Project Span → Slot → Option CallRef
assigned_text p (slot.Whole c) = if is_text_at p c then Some c else None
assigned_text p _ = None

abbrev pub set_all_by : Loaded → (gs : List Given) → AllMayBeGiven gs → (key : List ℕ) → Slot → Option CallRef → Result (List Step) Refusal
set_all_by l gs may key s None = set_all l gs may key s
set_all_by l gs may key s (Some c) = array_assigned key c (written_array gs may)

-- A literal that is assigned becomes the array of the values.
abbrev pub set_all_steps : Loaded → (gs : List Given) → AllMayBeGiven gs → (key : List ℕ) → Slot → Result (List Step) Refusal
set_all_steps l gs may key s = set_all_by l gs may key s (assigned_text (project l) s)

-- ---- further values

-- a literal or an identifier that is assigned
pub record LoneValue : Type 0 where
  pub place : CallRef
  pub value : Expression Span
  pub token : List ℕ

abbrev pub lone_in : Project Span → CallRef → Option (Expression Span) → Option LoneValue
lone_in p c None = None
lone_in p c (Some e) = if is_assigned p c then option_map (λ x. record { place = c; value = e; token = x }) (lone_token e) else None

abbrev pub lone_at : Project Span → CallRef → Option LoneValue
lone_at p c = lone_in p c (expression_at p c)

abbrev pub assigned_lone : Project Span → Slot → Option LoneValue
assigned_lone p (slot.Whole c) = lone_at p c
assigned_lone p _ = None

abbrev pub array_beside : (key : List ℕ) → CallRef → Written (Expression Nowhere) → List (Written (Expression Nowhere)) → Result (List Step) Refusal
array_beside key c old [] = Ok []
array_beside key c old (w ∷ ws) = array_assigned key c (array_with old (w ∷ ws))

abbrev pub lone_written : LoneValue → Written (Expression Nowhere)
lone_written v = record { bytes = v.token; node = erase_expression v.value }

abbrev pub added_by : Loaded → (gs : List Given) → AllMayBeGiven gs → (key : List ℕ) → Slot → Option LoneValue → Result (List Step) Refusal
added_by l gs may key s None = add_steps l gs may key s
added_by l gs may key s (Some v) =
    array_beside key v.place (lone_written v) (fresh_written (λ g. says (bytes_at v.place.file l.files) g v.value) [] gs may)

-- Such a value becomes the array of it and those values that it does not say.
abbrev pub added_steps : Loaded → (gs : List Given) → AllMayBeGiven gs → (key : List ℕ) → Slot → Result (List Step) Refusal
added_steps l gs may key s = added_by l gs may key s (assigned_lone (project l) s)
