-- The calls that an id names. Meson manual, Rewriter: a target, a dependency or the project is named by its name. A target or a dependency is named by its
-- variable too, and the project by `/` or `//`.
use Rattle.std.specs.Prelude.{ℕ, List, [], ◌∷◌, map, if◌then◌else◌, bytes_eq, codes, Option, Some, None}
use Rattle.meson_syntax.specs.declared.operator.Assignment.TheVariants as assignment
use Rattle.meson_syntax.specs.Tree.{Expression, Statement, assign}
use Rattle.meson_calls.specs.declared.call.Role.{Role}
use Rattle.meson_calls.specs.declared.call.Role.TheVariants as role
use Rattle.meson_calls.specs.Project.{Project, child, Placed, placed}
use Rattle.meson_calls.specs.Parts.{Part, an_expression, a_statement, parts}
use Rattle.meson_calls.specs.Calls.{Call, call_of, all_chosen, first_literal, is}
use Rattle.meson_calls.specs.Roles.{role_calls_among, one_of, with_role}

-- what a name is assigned with `=`
abbrev pub set_to : {S : Type 0} → List ℕ → Statement S → Option (Expression S)
set_to x (assign s y assignment.Set e) = if bytes_eq y.text x then Some e else None
set_to x _ = None

abbrev pub part_set_to : {S : Type 0} → List ℕ → Part S → Option (Expression S)
part_set_to x (an_expression e) = None
part_set_to x (a_statement s) = set_to x s

-- the value is at the first child of its assignment
abbrev pub value_of_assignment : {X : Type 0} → Placed X → Placed X
value_of_assignment x = placed (child x.place 0) x.it

abbrev pub values_among : {S : Type 0} → List (Placed (Part S)) → List ℕ → List (Placed (Expression S))
values_among qs x = map value_of_assignment (all_chosen (part_set_to x) qs)

abbrev pub assigned_values : {S : Type 0} → Project S → List ℕ → List (Placed (Expression S))
assigned_values p x = values_among (parts p) x

abbrev pub or_else : {X : Type 0} → List X → List X → List X
or_else [] ys = ys
or_else (x ∷ xs) ys = x ∷ xs

abbrev pub with_name : {S : Type 0} → List ℕ → Call S → Option (Call S)
with_name id c = if is id (first_literal c) then Some c else None

-- the calls of that name among some parts; if none has it, those that a variable of that name is set to there
abbrev pub named_or_set : {S : Type 0} → List (Placed (Part S)) → Role → List ℕ → List (Placed (Call S))
named_or_set qs r id = or_else (all_chosen (with_name id) (role_calls_among qs r)) (all_chosen (with_role r) (all_chosen call_of (values_among qs id)))

abbrev pub named_or_assigned : {S : Type 0} → Project S → Role → List ℕ → List (Placed (Call S))
named_or_assigned p r id = named_or_set (parts p) r id

abbrev pub project_ids : List (List ℕ)
project_ids = codes "/" ∷ codes "//" ∷ []

-- the calls that an id names among some parts
abbrev pub found_among : {S : Type 0} → List (Placed (Part S)) → Role → List ℕ → List (Placed (Call S))
found_among qs role.Target id = named_or_set qs role.Target id
found_among qs role.Dependency id = named_or_set qs role.Dependency id
found_among qs role.Project id = if one_of project_ids id then role_calls_among qs role.Project else []

-- in a project
abbrev pub found : {S : Type 0} → Project S → Role → List ℕ → List (Placed (Call S))
found p r id = found_among (parts p) r id
