-- What a variable means. A build file is run from top to bottom (Meson manual, Syntax, "Variables"). So a variable means one expression only if nothing else
-- can set it.
use Rattle.std.specs.Prelude.{ℕ, Bool, true, false, not, ◌&&◌, ◌||◌, List, [], ◌∷◌, if◌then◌else◌, bytes_eq, codes, Option, Some, None, is_none}
use Rattle.std.specs.List.{list_any}
use Rattle.meson_syntax.specs.Tree.{Name, Expression, Statement, assign, iteration}
use Rattle.meson_calls.specs.Project.{Project, child, Placed, placed}
use Rattle.meson_calls.specs.Parts.{Part, an_expression, a_statement, parts}
use Rattle.meson_calls.specs.Calls.{Call, all_chosen, calls, calls_function, first_literal, is}
use Rattle.meson_calls.specs.Notes.{is_set}
use Rattle.meson_calls.specs.Subdirs.{enters_unknown}

-- ---- assignments

-- a value, and whether it is given with `=`
pub record Assigned (S : Type 0) : Type 0 where
  pub value : Expression S
  pub sets : Bool

abbrev pub assigned_by : {S : Type 0} → List ℕ → Statement S → Option (Assigned S)
assigned_by x (assign s y a e) = if bytes_eq y.text x then Some (record { value = e; sets = is_set a }) else None
assigned_by x _ = None

abbrev pub part_assigned : {S : Type 0} → List ℕ → Part S → Option (Assigned S)
part_assigned x (an_expression e) = None
part_assigned x (a_statement s) = assigned_by x s

-- all assignments to a variable
abbrev pub assignments : {S : Type 0} → Project S → List ℕ → List (Placed (Assigned S))
assignments p x = all_chosen (part_assigned x) (parts p)

-- a statement of a file's own block is outside `if` and `foreach`
abbrev pub is_outermost : List ℕ → Bool
is_outermost [] = false
is_outermost (n ∷ []) = true
is_outermost (n ∷ m ∷ more) = false

-- the value of the only one, if it is given with `=` outside `if` and `foreach`
abbrev pub only_value : {S : Type 0} → List (Placed (Assigned S)) → Option (Placed (Expression S))
only_value [] = None
only_value (a ∷ []) = if a.it.sets && is_outermost a.place.path.steps then Some (placed (child a.place 0) a.it.value) else None
only_value (a ∷ b ∷ more) = None

-- ---- what else sets a variable

abbrev pub one_of_names : {S : Type 0} → List (Name S) → List ℕ → Bool
one_of_names names x = list_any (λ name. bytes_eq name.text x) names

abbrev pub is_iterated : {S : Type 0} → List ℕ → Part S → Bool
is_iterated x (an_expression e) = false
is_iterated x (a_statement (iteration s xs e b)) = one_of_names xs x
is_iterated x (a_statement s) = false

abbrev pub sets_variable : {S : Type 0} → List ℕ → Call S → Bool
sets_variable x c = calls_function (codes "set_variable") c && is x (first_literal c)

abbrev pub is_set_otherwise : {S : Type 0} → Project S → List ℕ → Bool
is_set_otherwise p x = list_any (λ q. is_iterated x q.it) (parts p) || list_any (λ c. sets_variable x c.it) (calls p)

-- ---- what may set any variable: a `set_variable` of a name that isn't a literal, and a `subdir` of a file that does not exist

abbrev pub sets_unknown : {S : Type 0} → Call S → Bool
sets_unknown c = calls_function (codes "set_variable") c && is_none (first_literal c)

abbrev pub all_known : {S : Type 0} → Project S → Bool
all_known p = not (list_any (λ c. sets_unknown c.it || enters_unknown p c) (calls p))

-- ---- the one expression that a variable means

abbrev pub single : {S : Type 0} → Project S → List ℕ → Option (Placed (Expression S))
single p x = if all_known p && not (is_set_otherwise p x) then only_value (assignments p x) else None
