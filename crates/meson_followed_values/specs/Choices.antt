-- Which values a change is made to, where variables are followed.
use Rattle.std.specs.Prelude.{Bool, ◌&&◌, List, [], ◌∷◌, ◌++◌, if◌then◌else◌, Option, Some, None, Result, Ok, Err}
use Rattle.std.specs.List.{filter_map, list_all, list_any}
use Rattle.meson_lex.specs.declared.kinds.Span.{Span}
use Rattle.meson_splice.specs.declared.file_set.File.{File}
use Rattle.meson_splice.specs.Patch.{then_ok}
use Rattle.meson_calls.specs.declared.call.CallRef.{CallRef}
use Rattle.meson_calls.specs.declared.refusal.Refusal.{Refusal}
use Rattle.meson_calls.specs.declared.refusal.Refusal.TheVariants.{Shared}
use Rattle.meson_calls.specs.Project.{Project}
use Rattle.meson_following.specs.Following.{one_of_places}
use Rattle.meson_following.specs.Makers.{Maker}
use Rattle.meson_steps.specs.declared.given.Given.{Given}
use Rattle.meson_places.specs.AllAssigned.{said_at}
use Rattle.meson_places.specs.Behind.{first_that, has_lists, or_first, says_all_at, says_one_at}
use Rattle.meson_places.specs.Operands.{gaining_among}
use Rattle.meson_followed_values.specs.declared.variables.Variable.{Variable}
use Rattle.meson_followed_values.specs.Makers.{is_read_here, makers_of, variables_at}

-- ---- where values are added

abbrev pub first_of : {X : Type 0} → List X → Option X
first_of [] = None
first_of (x ∷ xs) = Some x

-- The value of a maker gets them if it has a list, is part of the variable in each evaluation, and is seen where the variable is read and nowhere else.
abbrev pub gains : Project Span → Variable → Maker Span → Bool
gains p v m = m.sure && (has_lists p m.value.place && is_read_here p v m.value.place)

abbrev pub gained : Project Span → Variable → Maker Span → Option CallRef
gained p v m = if gains p v m then Some m.value.place else None

abbrev pub gaining_values : Project Span → Variable → List CallRef
gaining_values p v = filter_map (gained p v) (makers_of p v)

-- of a variable: the first one, unless another one has all of some values
abbrev pub gaining_value : List File → Project Span → List Given → Variable → Option CallRef
gaining_value files p gs v = or_first (first_that (says_all_at files p gs) (gaining_values p v)) (first_of (gaining_values p v))

-- For the value at a place. A value that has a list itself gets them there.
abbrev pub gaining_at : List File → Project Span → List Given → CallRef → Option CallRef
gaining_at files p gs c =
    if has_lists p c then None else gaining_among files p gs (filter_map (gaining_value files p gs) (variables_at files p gs c))

-- ---- where elements are removed or replaced, or get values after them

abbrev pub says_one : List File → Project Span → List Given → CallRef → Bool
says_one files p gs c = list_any (λ g. said_at files p g c) gs

abbrev pub said : List File → Project Span → List Given → Maker Span → Option CallRef
said files p gs m = if says_one files p gs m.value.place then Some m.value.place else None

-- the values of a variable's makers that say one of some values
abbrev pub saying_values : List File → Project Span → List Given → Variable → List CallRef
saying_values files p gs v = filter_map (said files p gs) (makers_of p v)

-- Each of them has to be seen where the variable is read and nowhere else.
abbrev pub owned_values : List File → Project Span → List Given → Variable → Result (List CallRef) Refusal
owned_values files p gs v =
    if list_all (is_read_here p v) (saying_values files p gs v) then Ok (saying_values files p gs v) else Err (Shared v.name)

abbrev pub all_owned : List File → Project Span → List Given → List Variable → Result (List CallRef) Refusal
all_owned files p gs [] = Ok []
all_owned files p gs (v ∷ vs) = then_ok (owned_values files p gs v) (λ cs. then_ok (all_owned files p gs vs) (λ more. Ok (cs ++ more)))

-- each place once, without those before
abbrev pub each_once : (before cs : List CallRef) → List CallRef
each_once before [] = []
each_once before (c ∷ cs) = if one_of_places before c then each_once before cs else c ∷ each_once (before ++ c ∷ []) cs

-- For the value at a place. Nothing where the value has an element itself that says one of them.
abbrev pub losing_at : List File → Project Span → List Given → CallRef → Result (List CallRef) Refusal
losing_at files p gs c =
    if says_one_at files p gs c then Ok []
    else then_ok (all_owned files p gs (variables_at files p gs c)) (λ cs. Ok (each_once [] cs))
