-- The places of the calls that are named, among notes.
use Rattle.std.specs.Prelude.{ℕ, List, Result, Ok}
use Rattle.meson_splice.specs.Patch.{then_ok}
use Rattle.meson_calls.specs.declared.call.CallName.{CallName}
use Rattle.meson_calls.specs.declared.call.CallRef.{CallRef}
use Rattle.meson_calls.specs.declared.call.Role.{Role}
use Rattle.meson_calls.specs.declared.refusal.Refusal.{Refusal}
use Rattle.meson_calls.specs.ChosenNotes.{found_places}
use Rattle.meson_calls.specs.Notes.{Note}
use Rattle.meson_calls.specs.Project.{Placed}
use Rattle.meson_calls.specs.Searching.{searched_file}

-- the files have these names
abbrev pub noted_places : {S : Type 0} → Role → CallName → (names : List (List ℕ)) → List (Placed (Note S)) → Result (List CallRef) Refusal
noted_places r name names ns = then_ok (searched_file names name.folder) (λ w. Ok (found_places w r name.id ns))
