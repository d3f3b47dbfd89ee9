-- What notes say of variables.
use Rattle.std.specs.Prelude.{ℕ, Bool, false, List, bytes_eq, Option, Some, None, if◌then◌else◌}
use Rattle.std.specs.List.{list_any}
use Rattle.meson_syntax.specs.Tree.{call}
use Rattle.meson_calls.specs.Project.{Placed}
use Rattle.meson_calls.specs.Calls.{all_chosen}
use Rattle.meson_variables.specs.Variables.{Assigned, one_of_names, sets_variable}
use Rattle.meson_calls.specs.Notes.{Note, a_call, an_assignment, a_loop}

-- a note of an assignment to a variable
abbrev pub note_assigned : {S : Type 0} → List ℕ → Note S → Option (Assigned S)
note_assigned x (a_call c) = None
note_assigned x (an_assignment y sets e) = if bytes_eq y x then Some (record { value = e; sets = sets }) else None
note_assigned x (a_loop xs) = None

abbrev pub assigned_notes : {S : Type 0} → List ℕ → List (Placed (Note S)) → List (Placed (Assigned S))
assigned_notes x ns = all_chosen (note_assigned x) ns

-- a note of a loop or a call that sets a variable
abbrev pub note_sets : {S : Type 0} → List ℕ → Note S → Bool
note_sets x (a_call c) = sets_variable x c
note_sets x (an_assignment y sets e) = false
note_sets x (a_loop xs) = one_of_names xs x

abbrev pub is_set_by : {S : Type 0} → List ℕ → List (Placed (Note S)) → Bool
is_set_by x ns = list_any (λ n. note_sets x n.it) ns
