-- Notes that are selected.
use Rattle.std.specs.Prelude.{ℕ, Bool, false, ◌&&◌, List, [], map, filter, if◌then◌else◌, bytes_eq, Option, Some, None}
use Rattle.meson_lex.specs.declared.kinds.Span.{Span}
use Rattle.meson_syntax.specs.declared.tree.List as code
use Rattle.meson_syntax.specs.Tree.{Listing}
use Rattle.meson_syntax.specs.View.{list_view}
use Rattle.meson_calls.specs.declared.call.Role.{Role}
use Rattle.meson_calls.specs.declared.call.CallRef.{CallRef}
use Rattle.meson_calls.specs.declared.call.Role.TheVariants as role
use Rattle.meson_calls.specs.Project.{Placed, child, placed}
use Rattle.meson_calls.specs.Calls.{Call, call_of, first_literal, is}
use Rattle.meson_calls.specs.Roles.{has_role, one_of}
use Rattle.meson_calls.specs.Naming.{or_else, project_ids}
use Rattle.meson_calls.specs.Searching.{places_within}
use Rattle.meson_calls.specs.Notes.{Note, a_call, an_assignment, a_loop}

abbrev pub Source : Type 0
Source = List ℕ

abbrev pub call_with : {S : Type 0} → List ℕ → Listing S → Call S
call_with f l = record { function = f; arguments = l }

-- the call at a place, of a function and of the arguments of the code's list
abbrev pub placed_call : CallRef → Source → Source → code.List → Placed (Call Span)
placed_call place function source l = placed place (call_with function (list_view source l))

abbrev pub note_has_role : {S : Type 0} → Role → Note S → Bool
note_has_role r (a_call c) = has_role r c
note_has_role r (an_assignment x sets e) = false
note_has_role r (a_loop xs) = false

-- the places of those that pass a test
abbrev pub places_that : {S : Type 0} → (Note S → Bool) → List (Placed (Note S)) → List CallRef
places_that test ns = map (λ n. n.place) (filter (λ n. test n.it) ns)

abbrev pub places_with_role : {S : Type 0} → Role → List (Placed (Note S)) → List CallRef
places_with_role r ns = places_that (note_has_role r) ns

-- a call of a role and a name
abbrev pub note_has_name : {S : Type 0} → Role → List ℕ → Note S → Bool
note_has_name r id (a_call c) = has_role r c && is id (first_literal c)
note_has_name r id (an_assignment x sets e) = false
note_has_name r id (a_loop xs) = false

-- an assignment of a call of a role to a variable
abbrev pub is_role_call : {S : Type 0} → Role → Option (Call S) → Bool
is_role_call r None = false
is_role_call r (Some c) = has_role r c

abbrev pub note_sets_call : {S : Type 0} → Role → List ℕ → Note S → Bool
note_sets_call r id (a_call c) = false
note_sets_call r id (an_assignment x sets e) = sets && (bytes_eq x id && is_role_call r (call_of e))
note_sets_call r id (a_loop xs) = false

-- the places of the values
abbrev pub assigned_places : {S : Type 0} → Role → List ℕ → List (Placed (Note S)) → List CallRef
assigned_places r id ns = map (λ n. child n.place 0) (filter (λ n. note_sets_call r id n.it) ns)

abbrev pub named_places : {S : Type 0} → Option ℕ → Role → List ℕ → List (Placed (Note S)) → List CallRef
named_places w r id ns = or_else (places_within w (places_that (note_has_name r id) ns)) (places_within w (assigned_places r id ns))

-- the places of the calls that an id names in the files that are searched
abbrev pub found_places : {S : Type 0} → Option ℕ → Role → List ℕ → List (Placed (Note S)) → List CallRef
found_places w role.Target id ns = named_places w role.Target id ns
found_places w role.Dependency id ns = named_places w role.Dependency id ns
found_places w role.Project id ns = if one_of project_ids id then places_within w (places_with_role role.Project ns) else []
