-- What is promised about the calls and assignments that are listed of a project, in the words of ids, of variables and of trees.
use Rattle.std.specs.Prelude.{◌≡◌, ◌≢◌, ◌↔◌, ◌⊎◌, ℕ, false, List, [], ◌∷◌, filter, Option, Some, None, Ok, option_and_then, All}
use Rattle.std.specs.List.{Contains, list_any}
use Rattle.meson_lex.specs.declared.kinds.Span.{Span}
use Rattle.meson_syntax.specs.Paths.{Sort, of_expression, of_statement, of_block, Node, block_of, reach}
use Rattle.meson_syntax.specs.Tree.{Statement}
use Rattle.meson_calls.specs.declared.call.CallName.{CallName}
use Rattle.meson_calls.specs.declared.call.CallRef.{CallRef}
use Rattle.meson_calls.specs.declared.call.Role.{Role}
use Rattle.meson_calls.specs.declared.call.Reading.TheVariants.{Written}
use Rattle.meson_calls.specs.declared.call.Role.TheVariants as role
use Rattle.meson_calls.specs.Calls.{Call, calls}
use Rattle.meson_calls.specs.Finding.{the_call}
use Rattle.meson_calls.specs.Loading.{Loaded, IsProject, project}
use Rattle.meson_calls.specs.Naming.{found}
use Rattle.meson_calls.specs.Parts.{a_statement}
use Rattle.meson_calls.specs.Project.{Placed, Project, nth_file}
use Rattle.meson_calls.specs.Roles.{places}
use Rattle.meson_calls.specs.Searching.{project_names, searched_file}
use Rattle.meson_variables.specs.Variables.{all_known}
use Rattle.meson_calls.specs.Subdirs.{enters_unknown}
use Rattle.meson_inventory.specs.Assignments.{assignment_of, assignments}
use Rattle.meson_inventory.specs.Holdings.{calls_named, held_call, held_calls, holdings}
use Rattle.meson_inventory.specs.declared.assignments.HeldAssignment.{HeldAssignment}
use Rattle.meson_inventory.specs.declared.holdings.HeldCall.{HeldCall}

-- ---- What an id finds is among the listed targets, and has the id there as its name or its variable.

pub record IsListed (l : Loaded) (id : List ℕ) (c : CallRef) : Type 0 where
  pub call : HeldCall
  pub is_held : held_call l c ≡ Some call
  pub among : Contains (holdings Written l).targets call
  pub named : (call.head.name ≡ Some id) ⊎ (call.variable ≡ Some id)

abbrev pub FoundAreListed : Type 0
FoundAreListed = (l : Loaded) (id : List ℕ) → All (IsListed l id) (places (found (project l) role.Target id))

-- ---- The calls that are named are those that a command may mean.

-- Where a command finds one call, that call alone is named.
abbrev pub OneIsNamed : Type 0
OneIsNamed = (l : Loaded) (r : Role) (name : CallName) (c : Placed (Call Span)) → the_call (project l) r name ≡ Ok c → calls_named l r name ≡ held_calls l (c.place ∷ [])

-- With a folder each of them is in its build file.
abbrev pub NamedAreSearched : Type 0
NamedAreSearched = (l : Loaded) (r : Role) (name : CallName) (file : ℕ) → searched_file (project_names (project l)) name.folder ≡ Ok (Some file)
    → All (λ c. c.file ≡ file) (calls_named l r name)

-- ---- What is not entered makes the value of every variable unknown.

-- The calls that are listed as not entered are the `subdir` calls by which any variable may be set. With such a call, no variable is known; without one, no
-- `subdir` call is the reason.
pub record TellsWhyUnknown (l : Loaded) : Type 0 where
  pub same : (holdings Written l).not_entered ≡ held_calls l (places (filter (enters_unknown (project l)) (calls (project l))))
  pub unknown : (holdings Written l).not_entered ≢ [] → all_known (project l) ≡ false
  pub entered : (holdings Written l).not_entered ≡ [] → list_any (enters_unknown (project l)) (calls (project l)) ≡ false

abbrev pub NotEnteredMeansUnknown : Type 0
NotEnteredMeansUnknown = (l : Loaded) → IsProject l → TellsWhyUnknown l

-- ---- The assignments that are listed are those that the trees have.

abbrev pub statement_in : (sort : Sort) → Node sort Span → Option (Statement Span)
statement_in of_expression e = None
statement_in of_statement s = Some s
statement_in of_block b = None

-- the statement at a place
abbrev pub statement_at : Project Span → CallRef → Option (Statement Span)
statement_at p c =
    option_and_then (λ f. option_and_then (λ h. statement_in h.sort h.inside) (reach Span of_block (block_of f.tree) c.path.steps)) (nth_file p c.file)

-- at some place a statement is this assignment
pub record StandsIn (p : Project Span) (a : HeldAssignment) : Type 0 where
  pub place : CallRef
  pub statement : Statement Span
  pub is_there : statement_at p place ≡ Some statement
  pub is_it : assignment_of place.file (a_statement statement) ≡ Some a

abbrev pub AssignmentsAreListed : Type 0
AssignmentsAreListed = (l : Loaded) (a : HeldAssignment) → Contains (assignments l) a ↔ StandsIn (project l) a
