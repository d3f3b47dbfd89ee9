-- New sources that `target add` adds to the call itself, since not all of its sources are known.
use Rattle.std.specs.Prelude.{ℕ, nat_lt, ◌==◌, Bool, false, ◌&&◌, if◌then◌else◌, List, [], map, bytes_eq, codes, Option, Some, None, Result, Ok, Err}
use Rattle.std.specs.List.{list_any}
use Rattle.meson_lex.specs.declared.kinds.Span.{Span}
use Rattle.meson_calls.specs.declared.call.CallRef.{CallRef}
use Rattle.meson_calls.specs.declared.call.Role.TheVariants as role
use Rattle.meson_calls.specs.declared.refusal.Refusal.{Refusal}
use Rattle.meson_calls.specs.Calls.{Call}
use Rattle.meson_calls.specs.Finding.{the_call}
use Rattle.meson_calls.specs.Loading.{Loaded, project}
use Rattle.meson_calls.specs.Project.{Placed}
use Rattle.meson_inventory.specs.Holdings.{calls_named}
use Rattle.meson_variables.specs.TargetSources.{sources}
use Rattle.meson_variables.specs.declared.source.Sources.{Sources}
use Rattle.meson_explaining.specs.declared.explanation.Note.{Note}
use Rattle.meson_explaining.specs.Notes.{call_note}
use Rattle.meson_explaining.specs.Sources.{is_missing}
use Rattle.meson_calls.specs.declared.call.CallName.{CallName}

abbrev pub is_place : CallRef → CallRef → Bool
is_place a b = (a.file == b.file) && bytes_eq a.path.steps b.path.steps

-- a new one, where the list that gets it is the call, and something in it is not known
abbrev pub is_into_call : List (List ℕ) → CallRef → Sources → Bool
is_into_call names c s = (list_any (is_missing s.items) names && nat_lt 0 s.opaque) && is_place s.home c

abbrev pub into_one : List (List ℕ) → CallRef → Option (Result Sources Refusal) → Bool
into_one names c None = false
into_one names c (Some (Err e)) = false
into_one names c (Some (Ok s)) = is_into_call names c s

abbrev pub into_at : Loaded → List (List ℕ) → Result (Placed (Call Span)) Refusal → Bool
into_at l names (Err e) = false
into_at l names (Ok c) = into_one names c.place (sources (project l) c.place)

unfoldable pub goes_into_call : Loaded → CallName → List (List ℕ) → Bool
goes_into_call l name names = into_at l names (the_call (project l) role.Target name)

abbrev pub into_call : Loaded → CallName → List (List ℕ) → List Note
into_call l name names =
    if goes_into_call l name names then map (call_note (codes ": the new source is added to this call, since some of its sources are not known"))
    (calls_named l role.Target name) else []
