-- Uses of a variable as the code searches for them: the places where it is read (`read_in`), and the notes that name it.
use Rattle.std.specs.Prelude.{ℕ, Bool, not, ◌&&◌, List, bytes_eq}
use Rattle.std.specs.List.{list_any}
use Rattle.meson_calls.specs.declared.call.CallRef.{CallRef}
use Rattle.meson_calls.specs.Project.{Placed}
use Rattle.meson_calls.specs.Notes.{Note, a_call, an_assignment, a_loop}
use Rattle.meson_variables.specs.Variables.{one_of_names}
use Rattle.meson_targets.specs.TargetEdits.{StatementPlace, call_uses, is_in_statement}

abbrev pub note_uses : {S : Type 0} → List ℕ → Note S → Bool
note_uses x (a_call c) = call_uses x c
note_uses x (an_assignment y sets e) = bytes_eq y x
note_uses x (a_loop xs) = one_of_names xs x

-- outside a statement
abbrev pub is_outside : StatementPlace → CallRef → Bool
is_outside statement c = not (is_in_statement statement c)

abbrev pub is_noted_outside : {S : Type 0} → StatementPlace → List ℕ → List (Placed (Note S)) → Bool
is_noted_outside statement x ns = list_any (λ n. is_outside statement n.place && note_uses x n.it) ns

abbrev pub is_read_outside : StatementPlace → List CallRef → Bool
is_read_outside statement places = list_any (is_outside statement) places
