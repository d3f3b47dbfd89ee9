-- Values that are sums: a change that the lists of the sum do not serve is made to what an operand that is a variable is set to.
use Rattle.std.specs.Prelude.{ℕ, zero, suc, Bool, List, [], ◌∷◌, if◌then◌else◌, Option, Some, None, option_and_then, Result, Ok, Err}
use Rattle.std.specs.List.{filter_map}
use Rattle.meson_lex.specs.declared.kinds.Span.{Span}
use Rattle.meson_splice.specs.declared.file_set.File.{File}
use Rattle.meson_splice.specs.Patch.{then_ok}
use Rattle.meson_syntax.specs.Tree.{Expression, row, Operands, no_operands, operand}
use Rattle.meson_calls.specs.declared.call.CallRef.{CallRef}
use Rattle.meson_calls.specs.declared.refusal.Refusal.{Refusal}
use Rattle.meson_calls.specs.declared.refusal.Refusal.TheVariants.{Shared}
use Rattle.meson_calls.specs.Project.{Project, child, expression_at}
use Rattle.meson_steps.specs.declared.argument.ValueChange.{ValueChange}
use Rattle.meson_steps.specs.declared.argument.ValueChange.TheVariants as change
use Rattle.meson_steps.specs.declared.given.Given.{Given}
use Rattle.meson_places.specs.declared.slots.Slot.{Slot}
use Rattle.meson_places.specs.Behind.{Behind, behind_value, first_that, gains, has_lists, or_first, placed_at, says_all_at, says_one_at, slot_at_value, slot_behind}
use Rattle.meson_places.specs.Changes.{slot_place}
use Rattle.meson_places.specs.Uses.{is_read_once}
use Rattle.meson_places.specs.ValueLists.{are_plus, last_of}

-- ---- the operands of a sum

abbrev pub count_operands : {S : Type 0} → Operands S → ℕ
count_operands no_operands = 0
count_operands (operand o e more) = suc (count_operands more)

-- how many operands a sum has; no other expression has any
abbrev pub operand_count : {S : Type 0} → Expression S → ℕ
operand_count (row s e more) = if are_plus more then suc (count_operands more) else 0
operand_count _ = 0

-- the places of this many children of what is at a place, from the n-th on
abbrev pub children_from : CallRef → (n many : ℕ) → List CallRef
children_from c n zero = []
children_from c n (suc many) = child c n ∷ children_from c (suc n) many

-- the places of the operands of the sum at a place, from left to right
abbrev pub operands_in : {S : Type 0} → CallRef → Option (Expression S) → List CallRef
operands_in c None = []
operands_in c (Some e) = children_from c 0 (operand_count e)

abbrev pub operands_at : {S : Type 0} → Project S → CallRef → List CallRef
operands_at p c = operands_in c (expression_at p c)

-- ---- variables among them

-- the variable at a place, if it is set to one value; unless it says one of some values itself
abbrev pub behind_at : List File → Project Span → List Given → CallRef → Option Behind
behind_at files p gs c = option_and_then (behind_value files p gs) (placed_at p c)

-- the place of that value, if it has a list and nothing else reads the variable
abbrev pub value_if_own : List File → Project Span → Behind → Option CallRef
value_if_own files p b = if gains files p b then Some b.value_at else None

abbrev pub own_value : List File → Project Span → List Given → CallRef → Option CallRef
own_value files p gs c = option_and_then (value_if_own files p) (behind_at files p gs c)

-- ---- where values are added

-- to the last of some values; unless one of them has all
abbrev pub gaining_among : List File → Project Span → List Given → List CallRef → Option CallRef
gaining_among files p gs cs = or_first (first_that (says_all_at files p gs) cs) (last_of cs)

-- A sum that has a list itself gets them there.
abbrev pub gaining_at : List File → Project Span → List Given → CallRef → Option CallRef
gaining_at files p gs c = if has_lists p c then None else gaining_among files p gs (filter_map (own_value files p gs) (operands_at p c))

-- ---- where elements are removed or replaced, or get values behind them

abbrev pub says_behind : List File → Project Span → List Given → Behind → Bool
says_behind files p gs b = says_one_at files p gs b.value_at

-- Nothing else may read the variable.
abbrev pub owned_value : List File → Project Span → Option Behind → Result (Option CallRef) Refusal
owned_value files p None = Ok None
owned_value files p (Some b) = if is_read_once files p b.variable b.read_at then Ok (Some b.value_at) else Err (Shared b.variable)

-- in the value of the first variable that has one; unless the sum has one itself
abbrev pub losing_at : List File → Project Span → List Given → CallRef → Result (Option CallRef) Refusal
losing_at files p gs c =
    if says_one_at files p gs c then Ok None
    else owned_value files p (first_that (says_behind files p gs) (filter_map (behind_at files p gs) (operands_at p c)))

-- ---- the value that is changed

abbrev pub operand_value_at : List File → Project Span → ValueChange → CallRef → Result (Option CallRef) Refusal
operand_value_at files p (change.Add gs) c = Ok (gaining_at files p gs c)
operand_value_at files p (change.AddSorted gs) c = Ok (gaining_at files p gs c)
operand_value_at files p (change.AddAfter g gs) c = losing_at files p (g ∷ []) c
operand_value_at files p (change.Remove gs) c = losing_at files p gs c
operand_value_at files p (change.Replace old new) c = losing_at files p (old ∷ []) c
operand_value_at files p _ c = Ok None

abbrev pub operand_value_of : List File → Project Span → ValueChange → Option CallRef → Result (Option CallRef) Refusal
operand_value_of files p ch None = Ok None
operand_value_of files p ch (Some c) = operand_value_at files p ch c

-- of the value of a slot
abbrev pub operand_value : List File → Project Span → ValueChange → Slot → Result (Option CallRef) Refusal
operand_value files p ch s = operand_value_of files p ch (slot_place p s)

-- the slot whose value is changed: that of the value of a variable, or the one that is named
abbrev pub followed_slot : List File → Project Span → ValueChange → Slot → Result Slot Refusal
followed_slot files p ch s = then_ok (operand_value files p ch s) (slot_at_value (slot_behind files p ch s))
