-- Sources added to a target and removed from it, where variables are followed.
use Rattle.std.specs.Prelude.{ℕ, Bool, not, ◌&&◌, List, [], ◌∷◌, ◌++◌, map, count_by, if◌then◌else◌, Option, Some, ok_or, option_map, option_and_then, Result, Ok, Err}
use Rattle.std.specs.List.{filter, list_any}
use Rattle.std.specs.Option.{option_map_or}
use Rattle.meson_splice.specs.Patch.{then_ok}
use Rattle.meson_calls.specs.declared.call.CallRef.{CallRef}
use Rattle.meson_calls.specs.declared.refusal.Refusal.{Refusal}
use Rattle.meson_calls.specs.declared.refusal.Refusal.TheVariants.{NotRemovable, Shared}
use Rattle.meson_calls.specs.Calls.{Call, keyword}
use Rattle.meson_calls.specs.NamedArguments.{once, sources_key}
use Rattle.meson_calls.specs.Project.{Project, Placed}
use Rattle.meson_following.specs.Following.{Mark, follow_marks}
use Rattle.meson_sharing.specs.Sharing.{is_unshared, variable_of}
use Rattle.meson_sharing.specs.Told.{is_opaque}
use Rattle.meson_sources.specs.SourceEdits.{Spot, inserted_in, none_found, removal_steps}
use Rattle.meson_sources.specs.Effects.{same_spot}
use Rattle.meson_steps.specs.Names.{checked_names}
use Rattle.meson_steps.specs.Steps.{Step}
use Rattle.meson_steps.specs.declared.source_change.SharedLists.{SharedLists}
use Rattle.meson_steps.specs.declared.source_change.SharedLists.TheVariants.{Kept, Changed}
use Rattle.meson_followed.specs.Homes.{by_maker, home}
use Rattle.meson_followed.specs.Sources.{MetSource, distinct_paths, has_path, named_path, sources_at, sources_of}

-- ---- addition

-- it is there in each evaluation
abbrev pub is_sure_at : List ℕ → MetSource → Bool
is_sure_at path s = s.sure && has_path path s

-- the names that mean no sure source, each path once
abbrev pub new_sources : {S : Type 0} → Project S → ℕ → List MetSource → List (List ℕ) → List (List ℕ)
new_sources p n sources names = filter (λ name. not (list_any (is_sure_at (named_path p n name)) sources)) (distinct_paths p n names)

abbrev pub followed_added : {S : Type 0} → Project S → Placed (Call S) → SharedLists → List (List ℕ) → Result (List Step) Refusal
followed_added p c shared names =
    then_ok (checked_names names) (λ _. then_ok (once sources_key (keyword sources_key c.it) (follow_marks p c))
    (λ marks. Ok (inserted_in p (home p c shared marks) (new_sources p c.place.file (sources_of p c.place.file marks) names))))

-- ---- removal

-- a source that is an element of a list: the element, the file from whose folder its name is taken, and the maker in whose value it is, if it is in one
pub record Removal : Type 0 where
  pub spot : Spot
  pub base : ℕ
  pub maker : Option CallRef

abbrev pub removal_of : MetSource → Option Removal
removal_of s = option_map (λ spot. record { spot = spot; base = s.base; maker = s.maker }) s.spot

-- all are in lists
abbrev pub removals_of : List MetSource → Option (List Removal)
removals_of [] = Some []
removals_of (s ∷ more) = option_and_then (λ r. option_map (λ rs. r ∷ rs) (removals_of more)) (removal_of s)

-- of the sources at one path; there must be at least one
abbrev pub removals_by : ℕ → List MetSource → Result (List Removal) Refusal
removals_by unknown [] = Err (none_found unknown)
removals_by unknown (s ∷ more) = ok_or (removals_of (s ∷ more)) NotRemovable

-- of the sources at each of these paths
abbrev pub removals_at : ℕ → List MetSource → List (List ℕ) → Result (List Removal) Refusal
removals_at unknown sources [] = Ok []
removals_at unknown sources (path ∷ more) =
    then_ok (removals_by unknown (sources_at sources path)) (λ here. then_ok (removals_at unknown sources more) (λ later. Ok (here ++ later)))

-- of the sources at the paths of these names, among what a target in the file of this number meets
abbrev pub removals_named : {S : Type 0} → Project S → ℕ → List (Mark S) → List (List ℕ) → Result (List Removal) Refusal
removals_named p n marks names =
    removals_at (count_by is_opaque marks) (sources_of p n marks) (map (named_path p n) (distinct_paths p n names))

-- the name of the variable to which the value of a maker is assigned
abbrev pub maker_name : {S : Type 0} → Project S → Option CallRef → List ℕ
maker_name p m = option_map_or (λ name. name) (option_and_then (variable_of p) m) []

-- None is in a list that another target gets, too.
abbrev pub none_shared : {S : Type 0} → Project S → Placed (Call S) → List Removal → Result (List Removal) Refusal
none_shared p c [] = Ok []
none_shared p c (r ∷ more) =
    if by_maker (is_unshared p c) r.maker then then_ok (none_shared p c more) (λ rs. Ok (r ∷ rs)) else Err (Shared (maker_name p r.maker))

abbrev pub if_may_go : {S : Type 0} → Project S → Placed (Call S) → SharedLists → List Removal → Result (List Removal) Refusal
if_may_go p c Kept rs = none_shared p c rs
if_may_go p c Changed rs = Ok rs

-- each element once, without those that were seen
abbrev pub each_once : (seen : List Spot) → List Spot → List Spot
each_once seen [] = []
each_once seen (s ∷ more) = if list_any (same_spot s) seen then each_once seen more else s ∷ each_once (seen ++ s ∷ []) more

abbrev pub removed_steps : List Removal → List Step
removed_steps rs = removal_steps (each_once [] (map (λ r. r.spot) rs))

-- each source at the paths of the names goes, in whatever branch it is
abbrev pub removed_from : {S : Type 0} → Project S → Placed (Call S) → SharedLists → List (Mark S) → List (List ℕ) → Result (List Step) Refusal
removed_from p c shared marks names =
    then_ok (removals_named p c.place.file marks names) (λ rs. then_ok (if_may_go p c shared rs) (λ gone. Ok (removed_steps gone)))

abbrev pub followed_removed : {S : Type 0} → Project S → Placed (Call S) → SharedLists → List (List ℕ) → Result (List Step) Refusal
followed_removed p c shared names =
    then_ok (checked_names names) (λ _. then_ok (once sources_key (keyword sources_key c.it) (follow_marks p c))
    (λ marks. removed_from p c shared marks names))
