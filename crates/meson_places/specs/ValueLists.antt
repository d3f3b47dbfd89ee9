-- The lists of a value: those that its elements are added to, and removed from.
use Rattle.std.specs.Prelude.{ℕ, suc, Bool, true, false, ◌&&◌, List, [], ◌∷◌, bytes_eq, codes, if◌then◌else◌, Option, Some, None}
use Rattle.std.specs.List.{list_all}
use Rattle.meson_syntax.specs.declared.operator.Operator.{Operator}
use Rattle.meson_syntax.specs.declared.operator.Operator.TheVariants as operator
use Rattle.meson_syntax.specs.Tree.{Argument, Expression, array, call, row, Operands, no_operands, operand}
use Rattle.meson_edit.specs.Edits.{elements}
use Rattle.meson_calls.specs.declared.call.CallRef.{CallRef}
use Rattle.meson_calls.specs.Project.{child}
use Rattle.meson_places.specs.Slots.{elements_in, has_no_name}

-- a list: the place of its array or call, and its elements
pub record ValueList (S : Type 0) : Type 0 where
  pub place : CallRef
  pub elements : List (Argument S)

-- a call of `files` without a named argument
abbrev pub is_files : {S : Type 0} → (function : List ℕ) → List (Argument S) → Bool
is_files f xs = bytes_eq f (codes "files") && list_all has_no_name xs

-- an array, or such a call
abbrev pub is_list : {S : Type 0} → Expression S → Bool
is_list (array l) = true
is_list (call s f l) = is_files f.text (elements l)
is_list _ = false

-- the list that an expression is itself
abbrev pub own_list : {S : Type 0} → CallRef → Expression S → Option (ValueList S)
own_list c e = if is_list e then Some (record { place = c; elements = elements_in e }) else None

abbrev pub is_plus : Operator → Bool
is_plus operator.Plus = true
is_plus _ = false

-- whether all operators of a row are `+`. Meson manual, Syntax, "Arrays": `+` adds a list, or one more element, at the end of a list.
abbrev pub are_plus : {S : Type 0} → Operands S → Bool
are_plus no_operands = true
are_plus (operand o e more) = is_plus o && are_plus more

abbrev pub and_more : {X : Type 0} → Option X → List X → List X
and_more None xs = xs
and_more (Some x) xs = x ∷ xs

-- from the n-th operand on
abbrev pub operand_lists : {S : Type 0} → CallRef → (n : ℕ) → Operands S → List (ValueList S)
operand_lists c n no_operands = []
operand_lists c n (operand o e more) = and_more (own_list (child c n) e) (operand_lists c (suc n) more)

-- The lists of the expression at a place, from left to right: its own list, or those of the operands of a sum.
abbrev pub lists_of : {S : Type 0} → CallRef → Expression S → List (ValueList S)
lists_of c (row s e more) = if are_plus more then and_more (own_list (child c 0) e) (operand_lists c 1 more) else []
lists_of c e = and_more (own_list c e) []

abbrev pub last_of : {X : Type 0} → List X → Option X
last_of [] = None
last_of (x ∷ []) = Some x
last_of (x ∷ y ∷ more) = last_of (y ∷ more)
