-- The one call that an id names.
use Rattle.std.specs.Prelude.{ℕ, List, [], ◌∷◌, Option, Result, Ok, Err}
use Rattle.meson_splice.specs.Patch.{then_ok}
use Rattle.meson_calls.specs.declared.call.CallName.{CallName}
use Rattle.meson_calls.specs.declared.call.Role.{Role}
use Rattle.meson_calls.specs.declared.call.Role.TheVariants as role
use Rattle.meson_calls.specs.declared.refusal.Refusal.{Refusal}
use Rattle.meson_calls.specs.declared.refusal.Refusal.TheVariants.{NoProject, NotFound, Ambiguous}
use Rattle.meson_calls.specs.Project.{Project, Placed}
use Rattle.meson_calls.specs.Calls.{Call}
use Rattle.meson_calls.specs.Naming.{found_among}
use Rattle.meson_calls.specs.Parts.{parts}
use Rattle.meson_calls.specs.Roles.{role_calls}
use Rattle.meson_calls.specs.Searching.{project_names, searched_file, within}

abbrev pub only_one : {X : Type 0} → List X → Result X Refusal
only_one [] = Err NotFound
only_one (x ∷ []) = Ok x
only_one (x ∷ y ∷ more) = Err Ambiguous

abbrev pub any_project : {S : Type 0} → List (Placed (Call S)) → Result (Unit {0}) Refusal
any_project [] = Err NoProject
any_project (c ∷ more) = Ok tt

-- the one call that an id names among the parts of the files that are searched
abbrev pub call_within : {S : Type 0} → Option ℕ → Project S → Role → List ℕ → Result (Placed (Call S)) Refusal
call_within w p role.Target id = only_one (found_among (within w (parts p)) role.Target id)
call_within w p role.Dependency id = only_one (found_among (within w (parts p)) role.Dependency id)
call_within w p role.Project id = then_ok (any_project (role_calls p role.Project)) (λ _. only_one (found_among (within w (parts p)) role.Project id))

-- The one call that is named. If a folder is given, its build file alone is searched for the id.
abbrev pub the_call : {S : Type 0} → Project S → Role → CallName → Result (Placed (Call S)) Refusal
the_call p r name = then_ok (searched_file (project_names p) name.folder) (λ w. call_within w p r name.id)
