-- The variables of a value, and the assignments that may have made what they hold there.
use Rattle.std.specs.Prelude.{ℕ, Bool, List, [], ◌∷◌, bytes_eq, if◌then◌else◌, Option, Some, None, option_and_then, option_map}
use Rattle.std.specs.List.{filter_map, list_all, list_any}
use Rattle.meson_lex.specs.declared.kinds.Span.{Span}
use Rattle.meson_splice.specs.declared.file_set.File.{File}
use Rattle.meson_splice.specs.Files.{bytes_at}
use Rattle.meson_syntax.specs.Tree.{Expression}
use Rattle.meson_calls.specs.declared.call.CallRef.{CallRef}
use Rattle.meson_calls.specs.Notes.{Note, a_call, an_assignment, a_loop}
use Rattle.meson_calls.specs.Project.{Placed, Project, child}
use Rattle.meson_following.specs.Flows.{known_at}
use Rattle.meson_following.specs.Makers.{Known, Maker, is_same_place}
use Rattle.meson_following.specs.Reads.{reads_of_variable}
use Rattle.meson_steps.specs.declared.given.Given.{Given}
use Rattle.meson_places.specs.Behind.{placed_at, variable_of}
use Rattle.meson_places.specs.Equality.{says}
use Rattle.meson_places.specs.Operands.{operands_at}
use Rattle.meson_followed_values.specs.declared.variables.Variable.{Variable}

-- ---- the variables of a value

abbrev pub read_at : CallRef → List ℕ → Variable
read_at c x = record { name = x; read_at = c }

-- the variable that a value is, unless it says one of some values itself
abbrev pub variable_in : List File → List Given → Placed (Expression Span) → Option Variable
variable_in files gs v = if list_any (λ g. says (bytes_at v.place.file files) g v.it) gs then None else option_map (read_at v.place) (variable_of v.it)

abbrev pub variable_at : List File → Project Span → List Given → CallRef → Option Variable
variable_at files p gs c = option_and_then (variable_in files gs) (placed_at p c)

-- of the value at a place: itself, or the operands of the sum that it is, from left to right
abbrev pub variables_at : List File → Project Span → List Given → CallRef → List Variable
variables_at files p gs c = filter_map (variable_at files p gs) (c ∷ operands_at p c)

-- ---- their makers

-- the place of the value that `=` or `+=` assigns to a variable
abbrev pub assigned_value : {S : Type 0} → List ℕ → Placed (Note S) → Option CallRef
assigned_value x n = elim n.it [
  | a_call c ↦ None
  | an_assignment y sets e ↦ if bytes_eq y x then Some (child n.place 0) else None
  | a_loop xs ↦ None
]

-- the places of all, in file order and source order
abbrev pub assigned_values : {S : Type 0} → List ℕ → List (Placed (Note S)) → List CallRef
assigned_values x ns = filter_map (assigned_value x) ns

abbrev pub made_by : {S : Type 0} → Known S → List (Maker S)
made_by None = []
made_by (Some k) = k.makers

-- Those assignments whose value may have a part in what the variable holds where it is read, in the order of evaluation.
abbrev pub makers_of : Project Span → Variable → List (Maker Span)
makers_of p v = made_by (known_at p v.name v.read_at)

-- ---- read here alone

-- Whether no other read of the variable may see the value at a place.
abbrev pub is_read_here : Project Span → Variable → CallRef → Bool
is_read_here p v c = list_all (is_same_place v.read_at) (reads_of_variable p (c ∷ []) v.name)
