-- The place of the one call that an id names.
use Rattle.std.specs.Prelude.{ℕ, List, [], ◌∷◌, Option, Result, Ok, Err}
use Rattle.meson_splice.specs.Patch.{then_ok}
use Rattle.meson_calls.specs.declared.call.CallName.{CallName}
use Rattle.meson_calls.specs.declared.call.CallRef.{CallRef}
use Rattle.meson_calls.specs.declared.call.Role.{Role}
use Rattle.meson_calls.specs.declared.call.Role.TheVariants as role
use Rattle.meson_calls.specs.declared.refusal.Refusal.{Refusal}
use Rattle.meson_calls.specs.declared.refusal.Refusal.TheVariants.{NoProject}
use Rattle.meson_calls.specs.Project.{Placed}
use Rattle.meson_calls.specs.Notes.{Note}
use Rattle.meson_calls.specs.ChosenNotes.{found_places, places_with_role}
use Rattle.meson_calls.specs.Finding.{only_one}
use Rattle.meson_calls.specs.Searching.{searched_file}

abbrev pub any_place : List CallRef → Result (Unit {0}) Refusal
any_place [] = Err NoProject
any_place (c ∷ more) = Ok tt

abbrev pub place_within : {S : Type 0} → Option ℕ → Role → List ℕ → List (Placed (Note S)) → Result CallRef Refusal
place_within w role.Target id notes = only_one (found_places w role.Target id notes)
place_within w role.Dependency id notes = only_one (found_places w role.Dependency id notes)
place_within w role.Project id notes = then_ok (any_place (places_with_role role.Project notes)) (λ _. only_one (found_places w role.Project id notes))

-- the files have these names
abbrev pub the_place : {S : Type 0} → Role → CallName → (names : List (List ℕ)) → List (Placed (Note S)) → Result CallRef Refusal
the_place r name names notes = then_ok (searched_file names name.folder) (λ w. place_within w r name.id notes)
