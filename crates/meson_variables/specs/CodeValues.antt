-- What the code's values of variables mean.
use Rattle.std.specs.Prelude.{ℕ, List, [], ◌∷◌, bytes_eq, Option, Some, None, option_map}
use Rattle.std.specs.Option.{option_flatten}
use Rattle.std.specs.HashMap.{get_by}
use Rattle.meson_lex.specs.declared.kinds.Span.{Span}
use Rattle.meson_syntax.specs.Tree.{Expression}
use Rattle.meson_syntax.specs.View.{expr_view}
use Rattle.meson_variables.specs.declared.values.Value.{Value}
use Rattle.meson_variables.specs.declared.values.Values.{Values}
use Rattle.meson_calls.specs.Project.{child, Placed, place, placed}
use Rattle.meson_variables.specs.Variables.{Assigned, only_value}

abbrev pub value_view : Value → Placed (Expression Span)
value_view v = placed (child (place v.file (v.statement ∷ [])) 0) (expr_view v.source.now v.value.now)

-- ---- assignments that were met: nothing if there was none, else the value of the only one, or that it has none

abbrev pub taken : List (Placed (Assigned Span)) → Option (Option (Placed (Expression Span)))
taken [] = None
taken (a ∷ more) = Some (only_value (a ∷ more))

-- ---- the values by name

abbrev pub looked_up : Option (Option Value) → Option (Option (Placed (Expression Span)))
looked_up found = option_map (option_map value_view) found

-- what was met of a variable of this name
abbrev pub met_in : Values → List ℕ → Option (Option (Placed (Expression Span)))
met_in v x = looked_up (get_by (λ k. bytes_eq x k.now) v.by_name)

-- its value
abbrev pub value_in : Values → List ℕ → Option (Placed (Expression Span))
value_in v x = option_flatten (met_in v x)
