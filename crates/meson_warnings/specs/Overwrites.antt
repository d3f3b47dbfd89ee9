-- Values that `kwargs set` writes over and that no words of a command can write again.
use Rattle.std.specs.Prelude.{ℕ, Bool, true, false, not, ◌&&◌, if◌then◌else◌, List, [], ◌++◌, map, bytes_eq, codes, Option, Some, None, Result, Ok, Err}
use Rattle.std.specs.List.{list_any}
use Rattle.meson_lex.specs.declared.kinds.Span.{Span}
use Rattle.meson_calls.specs.declared.call.Role.{Role}
use Rattle.meson_calls.specs.declared.refusal.Refusal.{Refusal}
use Rattle.meson_calls.specs.Calls.{Call}
use Rattle.meson_calls.specs.Finding.{the_call}
use Rattle.meson_calls.specs.Keys.{identifier_list_keys}
use Rattle.meson_calls.specs.Loading.{Loaded, project}
use Rattle.meson_calls.specs.Project.{Placed}
use Rattle.meson_calls.specs.Roles.{one_of}
use Rattle.meson_details.specs.declared.details.Shown.{Shown}
use Rattle.meson_details.specs.declared.details.Shown.TheVariants as shown
use Rattle.meson_details.specs.Details.{keywords}
use Rattle.meson_explaining.specs.declared.explanation.Note.{Note}
use Rattle.meson_explaining.specs.Values.{value_notes}
use Rattle.meson_calls.specs.declared.call.CallName.{CallName}

-- an expression; or variables, where the key takes none
abbrev pub is_computed : Role → List ℕ → Shown → Bool
is_computed r key (shown.Opaque text) = true
is_computed r key (shown.Id name) = not (one_of (identifier_list_keys r) key)
is_computed r key (shown.Ids names) = not (one_of (identifier_list_keys r) key)
is_computed r key _ = false

abbrev pub is_lost : Role → List ℕ → List ℕ × Shown → Bool
is_lost r key pair = bytes_eq pair.0 key && is_computed r key pair.1

abbrev pub pairs_of : Option (Result (List (List ℕ × Shown)) Refusal) → List (List ℕ × Shown)
pairs_of None = []
pairs_of (Some (Err e)) = []
pairs_of (Some (Ok pairs)) = pairs

abbrev pub pairs_at : Loaded → Role → Result (Placed (Call Span)) Refusal → List (List ℕ × Shown)
pairs_at l r (Err e) = []
pairs_at l r (Ok c) = pairs_of (keywords l r c.place)

-- the keyword arguments of the call that an id names, if it names one
unfoldable pub keywords_at : Loaded → Role → CallName → List (List ℕ × Shown)
keywords_at l r id = pairs_at l r (the_call (project l) r id)

abbrev pub lost_note : Note → Note
lost_note n = record { spot = n.spot; text = codes "writes over " ++ n.text }

abbrev pub lost_value : Loaded → Role → CallName → List ℕ → List Note
lost_value l r id key = if list_any (is_lost r key) (keywords_at l r id) then map lost_note (value_notes l r id key) else []
