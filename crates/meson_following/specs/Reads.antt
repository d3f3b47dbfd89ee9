-- Where a variable is read, with what is known of it there. Meson manual, Syntax: by its name, in a format string as `@name@`, and by `get_variable`.
use Rattle.std.specs.Prelude.{ℕ, nat_eq, Bool, true, false, ◌&&◌, ◌||◌, List, [], ◌∷◌, ◌++◌, map, filter, flat_map, bytes_eq, codes, if◌then◌else◌, Option, Some, None}
use Rattle.std.specs.List.{filter_map, list_any, starts_with}
use Rattle.meson_syntax.specs.declared.operator.StringKind.{StringKind}
use Rattle.meson_syntax.specs.declared.operator.StringKind.TheVariants as quotes
use Rattle.meson_syntax.specs.Tree.{Expression, identifier, string, call}
use Rattle.meson_calls.specs.declared.call.CallRef.{CallRef}
use Rattle.meson_calls.specs.Project.{Project, Placed, placed}
use Rattle.meson_calls.specs.Parts.{Part, an_expression, a_statement, parts_of_expression}
use Rattle.meson_calls.specs.Roles.{places}
use Rattle.meson_following.specs.Flows.{Arrival, flow_project}
use Rattle.meson_following.specs.Following.{one_of_places}
use Rattle.meson_following.specs.Makers.{Known, is_full}
use Rattle.meson_following.specs.Names.{fits, named_by}

abbrev pub holds_text : List ℕ → List ℕ → Bool
holds_text part [] = starts_with nat_eq [] part
holds_text part (c ∷ cs) = starts_with nat_eq (c ∷ cs) part || holds_text part cs

abbrev pub is_format : StringKind → Bool
is_format quotes.Format = true
is_format quotes.FormatMultiline = true
is_format _ = false

abbrev pub reads_variable : {S : Type 0} → List ℕ → Expression S → Bool
reads_variable x (identifier s y) = bytes_eq y x
reads_variable x (string s q text) = is_format q && holds_text (codes "@" ++ (x ++ codes "@")) text
reads_variable x (call s f l) = bytes_eq f.text (codes "get_variable") && fits x (named_by (record { function = f.text; arguments = l }))
reads_variable x _ = false

abbrev pub read_in_part : {S : Type 0} → List ℕ → Placed (Part S) → Option CallRef
read_in_part x q = elim q.it [ an_expression e ↦ if reads_variable x e then Some q.place else None | a_statement s ↦ None ]

-- the places in an expression
abbrev pub read_places : {S : Type 0} → List ℕ → Placed (Expression S) → List CallRef
read_places x e = filter_map (read_in_part x) (parts_of_expression e.place e.it)

abbrev pub reads_at_arrival : {S : Type 0} → List ℕ → Arrival S → List (Placed (Known S))
reads_at_arrival x a = map (λ c. placed c a.known) (read_places x a.at_expression)

-- in the order of evaluation; of a file that two calls enter, each is there twice
abbrev pub reads : {S : Type 0} → Project S → List ℕ → List (Placed (Known S))
reads p x = flat_map (reads_at_arrival x) (flow_project p x).arrivals

-- ---- reads that may see the values of some makers. A maker is named by the place of its value.

-- whether one of these makers is kept in what is known of a variable
abbrev pub keeps_one_of : {S : Type 0} → List CallRef → Known S → Bool
keeps_one_of ms None = false
keeps_one_of ms (Some k) = list_any (λ m. one_of_places ms m.value.place) k.makers

-- whether makers may have been left out of what is known of a variable
abbrev pub may_leave_out : {S : Type 0} → Known S → Bool
may_leave_out None = false
may_leave_out (Some k) = is_full k

-- Whether a variable of which this is known may hold the value of one of these makers. Where makers may have been left out, it may be that of any.
abbrev pub has_one_of : {S : Type 0} → List CallRef → Known S → Bool
has_one_of ms k = may_leave_out k || keeps_one_of ms k

-- whether a read may see the value of one of these
abbrev pub sees : {S : Type 0} → List CallRef → Placed (Known S) → Bool
sees ms r = has_one_of ms r.it

-- the places at which a variable is read that may hold the value of one of these there
abbrev pub reads_of_variable : {S : Type 0} → Project S → List CallRef → List ℕ → List CallRef
reads_of_variable p ms x = places (filter (sees ms) (reads p x))
