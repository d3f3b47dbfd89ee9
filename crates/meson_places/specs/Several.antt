-- The steps that set a value to several ones: the elements of its array, or an array of them.
use Rattle.std.specs.Prelude.{ℕ, suc, ◌-◌, nat_lt, Bool, true, false, not, ◌&&◌, ◌||◌, List, [], ◌∷◌, ◌++◌, length, map, if◌then◌else◌, is_some, Option, Some, None, Result, Ok, Err}
use Rattle.std.specs.List.{list_all}
use Rattle.meson_splice.specs.Files.{bytes_at}
use Rattle.meson_splice.specs.Patch.{then_ok}
use Rattle.meson_syntax.specs.Tree.{plain, Expression, Nowhere}
use Rattle.meson_edit.specs.Edits.{Replace, Written}
use Rattle.meson_calls.specs.declared.call.CallRef.{CallRef}
use Rattle.meson_calls.specs.declared.refusal.Refusal.{Refusal}
use Rattle.meson_calls.specs.declared.refusal.Refusal.TheVariants.{NoSuchValue, NotLiteral, OtherKind, TooDeep}
use Rattle.meson_calls.specs.Calls.{literal_of}
use Rattle.meson_calls.specs.Loading.{Loaded, project}
use Rattle.meson_calls.specs.Project.{child, expression_at}
use Rattle.meson_steps.specs.ResultLimits.{plain_trees}
use Rattle.meson_steps.specs.Steps.{Step, step_in}
use Rattle.meson_steps.specs.WrittenTexts.{array_of_values, comma_between}
use Rattle.meson_places.specs.declared.slots.Slot.{Slot}
use Rattle.meson_places.specs.declared.slots.Slot.TheVariants as slot
use Rattle.meson_steps.specs.declared.given.Given.{Given}
use Rattle.meson_steps.specs.declared.given.Given.TheVariants as given
use Rattle.meson_places.specs.Changes.{added_to, behind_all, element_child, rest_removed}
use Rattle.meson_places.specs.Colons.{ends_in_file}
use Rattle.meson_places.specs.Room.{has_room, if_room, list_in_trees}
use Rattle.meson_places.specs.Slots.{Child, elements_in}
use Rattle.meson_steps.specs.GivenWords.{MayBeGiven}
use Rattle.meson_places.specs.Values.{are_texts, given_bytes, is_array, written_given}

-- ---- several values

abbrev pub AllMayBeGiven : List Given → Type 0
AllMayBeGiven [] = Unit {0}
AllMayBeGiven (g ∷ gs) = MayBeGiven g × AllMayBeGiven gs

abbrev pub all_written : (gs : List Given) → AllMayBeGiven gs → List (Written (Expression Nowhere))
all_written [] may = []
all_written (g ∷ gs) may = written_given g may.0 ∷ all_written gs may.1

-- the array of values, on one line
abbrev pub array_bytes : List Given → List ℕ
array_bytes gs = 91 ∷ (comma_between (map given_bytes gs) ++ 93 ∷ [])

abbrev pub written_array : (gs : List Given) → AllMayBeGiven gs → Written (Expression Nowhere)
written_array gs may = record { bytes = array_bytes gs; node = array_of_values (map (λ w. w.node) (all_written gs may)) }

abbrev pub is_text_given : Given → Bool
is_text_given (given.Text text) = true
is_text_given _ = false

abbrev pub is_code : Given → Bool
is_code (given.Code code) = true
is_code _ = false

abbrev pub any_code : List Given → Bool
any_code [] = false
any_code (g ∷ gs) = is_code g || any_code gs

-- ---- the elements of an array

-- in an array with this many elements, the value in the place of the i-th element, or after all if there is no such element
abbrev pub put_at : CallRef → (many i : ℕ) → Written (Expression Nowhere) → Step
put_at list many i w =
    if nat_lt i many then step_in list (Replace list.path.steps i w) else behind_all list i (record { bytes = w.bytes; node = plain w.node })

abbrev pub put_each : CallRef → (many i : ℕ) → List (Written (Expression Nowhere)) → List Step
put_each list many i [] = []
put_each list many i (w ∷ ws) = put_at list many i w ∷ put_each list many (suc i) ws

-- the elements become these values: each is in the place of an element, or behind all others, and surplus elements go
abbrev pub put_all : CallRef → (many : ℕ) → List (Written (Expression Nowhere)) → List Step
put_all list many ws = put_each list many 0 ws ++ rest_removed list (length ws) (many - length ws)

-- steps that put values into a list
abbrev pub if_room_for : Loaded → CallRef → List (Written (Expression Nowhere)) → List Step → Result (List Step) Refusal
if_room_for l c ws steps = if list_all (λ w. has_room w.node (list_in_trees (plain_trees l) c)) ws then Ok steps else Err TooDeep

-- texts alone replace no element of another kind
abbrev pub set_elements : {S : Type 0} → Loaded → (gs : List Given) → AllMayBeGiven gs → (key : List ℕ) → CallRef → Expression S → Result (List Step) Refusal
set_elements l gs may key inner e =
    if list_all is_text_given gs && not (are_texts e) then Err (OtherKind key)
    else if_room_for l inner (all_written gs may) (put_all inner (length (elements_in e)) (all_written gs may))

-- ---- an array in the place of a value

-- a text becomes a list of values, and anything else one with code
abbrev pub becomes_array : {S : Type 0} → List Given → Expression S → Bool
becomes_array gs e = is_some (literal_of e) || any_code gs

abbrev pub set_array : {S : Type 0} → Loaded → (gs : List Given) → AllMayBeGiven gs → (key : List ℕ) → CallRef → ℕ → Expression S → Result (List Step) Refusal
set_array l gs may key list n e =
    if becomes_array gs e then if_room l list (written_array gs may).node (step_in list (Replace list.path.steps n (written_array gs may)) ∷ [])
    else Err (OtherKind key)

-- ---- the steps

abbrev pub set_all_there : {S : Type 0} → Loaded → (gs : List Given) → AllMayBeGiven gs → (key : List ℕ) → CallRef → ℕ → Option (Child S)
    → Result (List Step) Refusal
set_all_there l gs may key list n None = Err (NoSuchValue key)
set_all_there l gs may key list n (Some c) =
    if is_array c.value then set_elements l gs may key (child list c.number) c.value else set_array l gs may key list n c.value

abbrev pub add_array : Loaded → (gs : List Given) → AllMayBeGiven gs → (key : List ℕ) → CallRef → Result (List Step) Refusal
add_array l gs may key list =
    then_ok (added_to (bytes_at list.file l.files) (ends_in_file l list.file) (written_array gs may) key list (expression_at (project l) list)) (if_room l list (written_array gs may).node)

-- the key is the last of those that named the slot
abbrev pub set_all : Loaded → (gs : List Given) → AllMayBeGiven gs → (key : List ℕ) → Slot → Result (List Step) Refusal
set_all l gs may key (slot.Element list n) = set_all_there l gs may key list n (element_child (project l) list n)
set_all l gs may key (slot.Absent list k) = add_array l gs may k list
set_all l gs may key (slot.Whole c) = Err (NotLiteral key)
