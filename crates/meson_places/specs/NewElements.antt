-- The steps that add values to the lists of a value.
use Rattle.std.specs.Prelude.{ℕ, Bool, List, [], ◌∷◌, ◌++◌, length, map, if◌then◌else◌, is_some, Option, Some, None, Result, Ok, Err}
use Rattle.meson_lex.specs.declared.kinds.Span.{Span}
use Rattle.meson_lex.specs.Literals.{value}
use Rattle.meson_splice.specs.Files.{bytes_at}
use Rattle.meson_syntax.specs.Operators.{string_kind}
use Rattle.meson_syntax.specs.Tree.{Expression, identifier, string, Nowhere, erase_expression}
use Rattle.meson_edit.specs.Edits.{Replace, Written}
use Rattle.meson_calls.specs.declared.call.CallRef.{CallRef}
use Rattle.meson_calls.specs.declared.refusal.Refusal.{Refusal}
use Rattle.meson_calls.specs.declared.refusal.Refusal.TheVariants.{NoSuchValue, NotLiteral}
use Rattle.meson_calls.specs.Loading.{Loaded, project}
use Rattle.meson_calls.specs.Project.{child, expression_at}
use Rattle.meson_steps.specs.Steps.{Step, step_in}
use Rattle.meson_steps.specs.WrittenTexts.{array_of_values, comma_between}
use Rattle.meson_steps.specs.declared.given.Given.{Given}
use Rattle.meson_places.specs.declared.slots.Slot.{Slot}
use Rattle.meson_places.specs.declared.slots.Slot.TheVariants as slot
use Rattle.meson_places.specs.Changes.{element_child}
use Rattle.meson_places.specs.Equality.{is_old, lists_say, says}
use Rattle.meson_places.specs.Room.{if_room}
use Rattle.meson_places.specs.Several.{AllMayBeGiven, add_array, all_written, if_room_for, put_each}
use Rattle.meson_places.specs.Slots.{Child}
use Rattle.meson_places.specs.ValueLists.{ValueList, last_of, lists_of}
use Rattle.meson_places.specs.Values.{written_given}

-- what is written for the values that are not known, each once
abbrev pub fresh_written : (known : Given → Bool) → (before gs : List Given) → AllMayBeGiven gs → List (Written (Expression Nowhere))
fresh_written known before [] may = []
fresh_written known before (g ∷ gs) may =
    if is_old known before g then fresh_written known (before ++ g ∷ []) gs may.1
    else written_given g may.0 ∷ fresh_written known (before ++ g ∷ []) gs may.1

-- ---- into a list

-- Each value that no list of the value says, behind the last element of a list. The list has room for all that are given.
abbrev pub add_to_list : Loaded → (known : Given → Bool) → (gs : List Given) → AllMayBeGiven gs → ValueList Span → Result (List Step) Refusal
add_to_list l known gs may list =
    if_room_for l list.place (all_written gs may)
    (put_each list.place (length list.elements) (length list.elements) (fresh_written known [] gs may))

-- ---- beside a lone value

-- the token of a literal or an identifier
abbrev pub lone_token : {S : Type 0} → Expression S → Option (List ℕ)
lone_token (identifier s x) = Some x
lone_token (string s q x) = if is_some (value (string_kind q) x) then Some x else None
lone_token _ = None

-- the array of a value and others, on one line
abbrev pub array_with : Written (Expression Nowhere) → List (Written (Expression Nowhere)) → Written (Expression Nowhere)
array_with old ws = record {
  bytes = 91 ∷ (comma_between (map (λ w. w.bytes) (old ∷ ws)) ++ 93 ∷ []);
  node = array_of_values (map (λ w. w.node) (old ∷ ws));
}

-- the value becomes the array of it and the new ones, if there are any
abbrev pub beside : Loaded → CallRef → ℕ → Written (Expression Nowhere) → List (Written (Expression Nowhere)) → Result (List Step) Refusal
beside l list n old [] = Ok []
beside l list n old (w ∷ ws) = if_room l list (array_with old (w ∷ ws)).node (step_in list (Replace list.path.steps n (array_with old (w ∷ ws))) ∷ [])

abbrev pub add_to_lone : Loaded → (gs : List Given) → AllMayBeGiven gs → (key : List ℕ) → CallRef → ℕ → Expression Span → Option (List ℕ)
    → Result (List Step) Refusal
add_to_lone l gs may key list n e None = Err (NotLiteral key)
add_to_lone l gs may key list n e (Some token) =
    beside l list n (record { bytes = token; node = erase_expression e }) (fresh_written (λ g. says (bytes_at list.file l.files) g e) [] gs may)

-- ---- the steps

-- into the last list of a value that has one
abbrev pub add_to_last : Loaded → (known : Given → Bool) → (gs : List Given) → AllMayBeGiven gs → (otherwise : Result (List Step) Refusal)
    → Option (ValueList Span) → Result (List Step) Refusal
add_to_last l known gs may otherwise None = otherwise
add_to_last l known gs may otherwise (Some list) = add_to_list l known gs may list

-- to the value at a place of a file
abbrev pub add_to_value : Loaded → (gs : List Given) → AllMayBeGiven gs → (otherwise : Result (List Step) Refusal) → CallRef → Expression Span
    → Result (List Step) Refusal
add_to_value l gs may otherwise c e =
    add_to_last l (lists_say (bytes_at c.file l.files) (lists_of c e)) gs may otherwise (last_of (lists_of c e))

abbrev pub add_there : Loaded → (gs : List Given) → AllMayBeGiven gs → (key : List ℕ) → CallRef → ℕ → Option (Child Span) → Result (List Step) Refusal
add_there l gs may key list n None = Err (NoSuchValue key)
add_there l gs may key list n (Some c) =
    add_to_value l gs may (add_to_lone l gs may key list n c.value (lone_token c.value)) (child list c.number) c.value

abbrev pub add_to_whole : Loaded → (gs : List Given) → AllMayBeGiven gs → (key : List ℕ) → CallRef → Option (Expression Span) → Result (List Step) Refusal
add_to_whole l gs may key c None = Err (NoSuchValue key)
add_to_whole l gs may key c (Some e) = add_to_value l gs may (Err (NotLiteral key)) c e

-- The key is the last of those that named the slot. Where it is absent, it is added with the array of the values.
abbrev pub add_steps : Loaded → (gs : List Given) → AllMayBeGiven gs → (key : List ℕ) → Slot → Result (List Step) Refusal
add_steps l gs may key (slot.Element list n) = add_there l gs may key list n (element_child (project l) list n)
add_steps l gs may key (slot.Absent list k) = add_array l gs may k list
add_steps l gs may key (slot.Whole c) = add_to_whole l gs may key c (expression_at (project l) c)
