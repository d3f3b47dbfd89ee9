-- The sources of a target: its arguments without a name after the first, and `sources:`. Meson manual, Reference manual, `executable`.
use Rattle.std.specs.Prelude.{ℕ, suc, List, [], ◌∷◌, ◌++◌, map, Option, Some, None, option_map, Result}
use Rattle.meson_lex.specs.declared.kinds.Span.{Span}
use Rattle.meson_syntax.specs.Tree.{Expression}
use Rattle.meson_calls.specs.declared.call.CallRef.{CallRef}
use Rattle.meson_variables.specs.declared.source.SourceItem.{SourceItem}
use Rattle.meson_variables.specs.declared.source.Sources as found
use Rattle.meson_calls.specs.declared.refusal.Refusal.{Refusal}
use Rattle.meson_calls.specs.Project.{Project, child, Placed}
use Rattle.meson_calls.specs.Calls.{Call, Numbered, positional, keyword}
use Rattle.meson_calls.specs.CallPlaces.{call_at}
use Rattle.meson_variables.specs.Expansion.{Slot, in_list, fixed, Item, Mark, known, opaque, empty, Expansion, nothing_met, then_expand, expand, max_followed}
use Rattle.meson_calls.specs.NamedArguments.{kwargs_key, once, rest, sources_key}

-- ---- the expansion of arguments of the call at a place

-- an argument without a name is in the call's list; a keyword's value in none
abbrev pub expand_arguments : {S : Type 0} → Project S → CallRef → (ℕ → Slot) → List (Numbered (Expression S)) → List (List ℕ) → Expansion S
expand_arguments p c slot [] followed = nothing_met followed
expand_arguments p c slot (a ∷ more) followed =
    then_expand (expand p max_followed a.value (record { place = child c a.number; slot = slot a.number; variable = None }) followed)
    (λ now. expand_arguments p c slot more now)

-- a `kwargs:` argument may hold sources that are not known
abbrev pub hidden : {S : Type 0} → List (Numbered (Expression S)) → List (Mark S)
hidden [] = []
hidden (a ∷ more) = opaque ∷ []

-- the variables that were followed count for all of them
abbrev pub source_marks : {S : Type 0} → Project S → Placed (Call S) → List (Mark S)
source_marks p c =
    (then_expand (expand_arguments p c.place (in_list c.place) (rest (positional c.it)) [])
    (λ now. expand_arguments p c.place (λ n. fixed) (keyword sources_key c.it) now)).marks
    ++ hidden (keyword kwargs_key c.it)

-- ---- what the marks say

abbrev pub items : {S : Type 0} → List (Mark S) → List (Item S)
items [] = []
items (known i ∷ marks) = i ∷ items marks
items (opaque ∷ marks) = items marks
items (empty p ∷ marks) = items marks

abbrev pub opaque_count : {S : Type 0} → List (Mark S) → ℕ
opaque_count [] = 0
opaque_count (known i ∷ marks) = opaque_count marks
opaque_count (opaque ∷ marks) = suc (opaque_count marks)
opaque_count (empty p ∷ marks) = opaque_count marks

abbrev pub list_of_slot : Slot → Option CallRef
list_of_slot (in_list p n) = Some p
list_of_slot fixed = None

abbrev pub or_option : {X : Type 0} → Option X → Option X → Option X
or_option None y = y
or_option (Some x) y = Some x

-- the list of the first item that is in one
abbrev pub first_list : {S : Type 0} → List (Mark S) → Option CallRef
first_list [] = None
first_list (known i ∷ marks) = or_option (list_of_slot i.slot) (first_list marks)
first_list (opaque ∷ marks) = first_list marks
first_list (empty p ∷ marks) = first_list marks

-- the first empty list
abbrev pub first_empty : {S : Type 0} → List (Mark S) → Option CallRef
first_empty [] = None
first_empty (known i ∷ marks) = first_empty marks
first_empty (opaque ∷ marks) = first_empty marks
first_empty (empty p ∷ marks) = Some p

abbrev pub or_call : CallRef → Option CallRef → CallRef
or_call c None = c
or_call c (Some p) = p

-- where a further source is added
abbrev pub home : {S : Type 0} → CallRef → List (Mark S) → CallRef
home c marks = or_call c (or_option (first_list marks) (first_empty marks))

-- ---- the answer

abbrev pub source_item : Item Span → SourceItem
source_item i = record { value = i.text; file = i.place.file; span = i.stands; list = list_of_slot i.slot; variable = i.variable }

abbrev pub sources_of_marks : CallRef → List (Mark Span) → found.Sources
sources_of_marks c marks = record { items = map source_item (items marks); opaque = opaque_count marks; home = home c marks }

abbrev pub sources_of_call : Project Span → Placed (Call Span) → Result found.Sources Refusal
sources_of_call p c = once sources_key (keyword sources_key c.it) (sources_of_marks c.place (source_marks p c))

-- the sources of the target at that place
abbrev pub sources : Project Span → CallRef → Option (Result found.Sources Refusal)
sources p c = option_map (sources_of_call p) (call_at p c)
