-- Notes of calls that may set any variable, among files.
use Rattle.std.specs.Prelude.{ℕ, Bool, false, not, ◌&&◌, ◌||◌, List, codes}
use Rattle.std.specs.List.{list_any}
use Rattle.meson_splice.specs.declared.file_set.File.{File}
use Rattle.meson_calls.specs.declared.call.CallRef.{CallRef}
use Rattle.meson_calls.specs.Project.{Placed}
use Rattle.meson_calls.specs.Calls.{Call, calls_function, first_literal}
use Rattle.meson_calls.specs.FileNames.{is_entered, meant_in}
use Rattle.meson_calls.specs.Notes.{Note, a_call, an_assignment, a_loop}
use Rattle.meson_variables.specs.Variables.{sets_unknown}

abbrev pub enters_none : {S : Type 0} → List File → ℕ → Call S → Bool
enters_none files n c = calls_function (codes "subdir") c && not (is_entered files (meant_in files n (first_literal c)))

abbrev pub is_unknown_in : {S : Type 0} → List File → CallRef → Note S → Bool
is_unknown_in files place (a_call c) = sets_unknown c || enters_none files place.file c
is_unknown_in files place (an_assignment x sets e) = false
is_unknown_in files place (a_loop xs) = false

abbrev pub has_unknown : {S : Type 0} → List File → List (Placed (Note S)) → Bool
has_unknown files ns = list_any (λ n. is_unknown_in files n.place n.it) ns
