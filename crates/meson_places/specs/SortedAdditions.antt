-- The steps that add values to the lists of a value, each in its place where the list is in order.
use Rattle.std.specs.Prelude.{ℕ, Bool, List, [], ◌∷◌, ◌++◌, length, if◌then◌else◌, Option, Some, None, Result}
use Rattle.meson_lex.specs.declared.kinds.Span.{Span}
use Rattle.meson_splice.specs.Files.{bytes_at}
use Rattle.meson_syntax.specs.Tree.{Expression}
use Rattle.meson_calls.specs.declared.refusal.Refusal.{Refusal}
use Rattle.meson_calls.specs.Loading.{Loaded, project}
use Rattle.meson_calls.specs.Project.{Placed}
use Rattle.meson_steps.specs.declared.given.Given.{Given}
use Rattle.meson_steps.specs.declared.given.Given.TheVariants as given
use Rattle.meson_steps.specs.declared.order.SortKey.{SortKey}
use Rattle.meson_steps.specs.declared.order.SortKey.TheVariants as key
use Rattle.meson_steps.specs.Identifiers.{is_identifier}
use Rattle.meson_steps.specs.OrderedLists.{Added, Ordered, all_put, ordered}
use Rattle.meson_steps.specs.Steps.{Step}
use Rattle.meson_places.specs.declared.slots.Slot.{Slot}
use Rattle.meson_places.specs.AssignedArrays.{added_steps}
use Rattle.meson_places.specs.Behind.{placed_value}
use Rattle.meson_places.specs.Equality.{is_old, lists_say}
use Rattle.meson_places.specs.Several.{AllMayBeGiven, all_written, if_room_for}
use Rattle.meson_places.specs.ValueLists.{ValueList, last_of, lists_of}
use Rattle.meson_places.specs.Values.{written_given}

abbrev pub name_key : (code : List ℕ) → SortKey
name_key code = if is_identifier code then key.Name code else key.Other

-- A text is ordered by itself, and code that is one identifier by its name.
abbrev pub given_key : Given → SortKey
given_key (given.Text text) = key.Text text
given_key (given.Switch b) = key.Other
given_key (given.Code code) = name_key code

-- the values that are not known, each once, with what is written for them
abbrev pub fresh_added : (known : Given → Bool) → (before gs : List Given) → AllMayBeGiven gs → List Added
fresh_added known before [] may = []
fresh_added known before (g ∷ gs) may =
    if is_old known before g then fresh_added known (before ++ g ∷ []) gs may.1
    else record { key = given_key g; written = written_given g may.0 } ∷ fresh_added known (before ++ g ∷ []) gs may.1

-- the order of a list
abbrev pub order_of : (source : List ℕ) → ValueList Span → Ordered
order_of source list = ordered source 0 (length list.elements) list.elements

-- Each value that is not known, in its place in a list. The list has room for all that are given.
abbrev pub sort_into_list : Loaded → (source : List ℕ) → (known : Given → Bool) → (gs : List Given) → AllMayBeGiven gs → ValueList Span
    → Result (List Step) Refusal
sort_into_list l source known gs may list =
    if_room_for l list.place (all_written gs may) (all_put list.place (order_of source list) (fresh_added known [] gs may))

abbrev pub sort_into_last : Loaded → (source : List ℕ) → (known : Given → Bool) → (gs : List Given) → AllMayBeGiven gs
    → (otherwise : Result (List Step) Refusal) → Option (ValueList Span) → Result (List Step) Refusal
sort_into_last l source known gs may otherwise None = otherwise
sort_into_last l source known gs may otherwise (Some list) = sort_into_list l source known gs may list

-- into the last of the lists of an expression
abbrev pub sort_into_lists : Loaded → (source : List ℕ) → (gs : List Given) → AllMayBeGiven gs → (otherwise : Result (List Step) Refusal)
    → List (ValueList Span) → Result (List Step) Refusal
sort_into_lists l source gs may otherwise ls = sort_into_last l source (lists_say source ls) gs may otherwise (last_of ls)

abbrev pub sort_into_value : Loaded → (gs : List Given) → AllMayBeGiven gs → (otherwise : Result (List Step) Refusal)
    → Option (Placed (Expression Span)) → Result (List Step) Refusal
sort_into_value l gs may otherwise None = otherwise
sort_into_value l gs may otherwise (Some v) = sort_into_lists l (bytes_at v.place.file l.files) gs may otherwise (lists_of v.place v.it)

-- Where the value of a slot has no list, its values are added as they are without an order.
abbrev pub sorted_steps : Loaded → (gs : List Given) → AllMayBeGiven gs → (key : List ℕ) → Slot → Result (List Step) Refusal
sorted_steps l gs may key s = sort_into_value l gs may (added_steps l gs may key s) (placed_value (project l) s)
