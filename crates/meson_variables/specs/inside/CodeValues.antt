-- The values of variables while the code gathers them from notes.
use Rattle.std.specs.Prelude.{ℕ, Bool, List, [], ◌∷◌, Option, Some, None, is_some}
use Rattle.std.specs.Borrow.{Bor}
use Rattle.std.specs.List.{list_any}
use Rattle.meson_lex.specs.declared.kinds.Span.{Span}
use Rattle.meson_syntax.specs.Tree.{Expression}
use Rattle.meson_calls.specs.declared.note.Note as code
use Rattle.meson_variables.specs.declared.values.Values.{Values}
use Rattle.meson_calls.specs.Project.{Placed, place, place_at, placed}
use Rattle.meson_variables.specs.Variables.{Assigned, only_value}
use Rattle.meson_variables.specs.CodeValues.{value_in}

-- an assignment of this value at the place of a note
abbrev pub assignment : code.Note → Bool → Expression Span → Placed (Assigned Span)
assignment n sets e = placed (place_at n.place) (record { value = e; sets = sets })

-- the value of the first, none of a further one
abbrev pub merged : {V : Type 0} → Option (Option V) → Option V → Option V
merged None value = value
merged (Some before) value = None

-- one more, if there is one
abbrev pub with_assigned : Option (Option (Placed (Expression Span))) → Option (Placed (Assigned Span)) → Option (Option (Placed (Expression Span)))
with_assigned before None = before
with_assigned before (Some a) = Some (merged before (only_value (a ∷ [])))

-- whether one of the code's names has one
abbrev pub has_any : Values → List (Bor (List ℕ)) → Bool
has_any v names = list_any (λ name. is_some (value_in v name.now)) names
