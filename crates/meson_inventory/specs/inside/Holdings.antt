-- The calls that the code lists, by notes.
use Rattle.std.specs.Prelude.{◌≡◌, ℕ, Bool, false, not, IsTrue, List, filter, Option, Some, None, option_and_then}
use Rattle.meson_lex.specs.declared.kinds.Span.{Span}
use Rattle.meson_calls.specs.declared.call.CallRef.{CallRef}
use Rattle.meson_calls.specs.declared.call.Reading.{Reading}
use Rattle.meson_calls.specs.Calls.{Call, call_of, calls_function}
use Rattle.meson_calls.specs.Loading.{Loaded, project}
use Rattle.meson_calls.specs.Notes.{Note, a_call, an_assignment, a_loop, notes}
use Rattle.meson_calls.specs.Project.{Placed, expression_at, placed}
use Rattle.meson_details.specs.Details.{is_call}
use Rattle.meson_inventory.specs.Holdings.{enters_one}

-- a call is at the place
abbrev pub IsCall : Loaded → CallRef → Type 0
IsCall l c = IsTrue (is_call (project l) c)

-- among notes
abbrev pub note_calls : {S : Type 0} → List ℕ → Note S → Bool
note_calls f (a_call c) = calls_function f c
note_calls f (an_assignment x sets e) = false
note_calls f (a_loop xs) = false

-- these are the notes of the project
abbrev pub AreAllNotes : Loaded → List (Placed (Note Span)) → Type 0
AreAllNotes l ns = ns ≡ notes (project l)

-- ---- among places

abbrev pub call_enters : Reading → Loaded → CallRef → Option (Call Span) → Bool
call_enters reading l place None = false
call_enters reading l place (Some c) = enters_one reading l (placed place c)

-- whether the call at a place enters one of the files
abbrev pub enters_at : Reading → Loaded → CallRef → Bool
enters_at reading l place = call_enters reading l place (option_and_then call_of (expression_at (project l) place))

abbrev pub not_entered_at : Reading → Loaded → List CallRef → List CallRef
not_entered_at reading l places = filter (λ place. not (enters_at reading l place)) places
