-- Sources that get another name, where variables are followed.
use Rattle.std.specs.Prelude.{ℕ, List, [], ◌∷◌, map, if◌then◌else◌, Result, Ok, Err}
use Rattle.std.specs.List.{list_any}
use Rattle.meson_splice.specs.Patch.{then_ok}
use Rattle.meson_calls.specs.declared.refusal.Refusal.{Refusal}
use Rattle.meson_calls.specs.declared.refusal.Refusal.TheVariants.{ThereAlready}
use Rattle.meson_calls.specs.Calls.{Call, keyword}
use Rattle.meson_calls.specs.NamedArguments.{once, sources_key}
use Rattle.meson_calls.specs.Project.{Placed, Project}
use Rattle.meson_following.specs.Following.{Mark, follow_marks}
use Rattle.meson_sources.specs.SourceEdits.{renaming}
use Rattle.meson_steps.specs.Names.{checked_names}
use Rattle.meson_steps.specs.Steps.{Step}
use Rattle.meson_steps.specs.declared.source_change.SharedLists.{SharedLists}
use Rattle.meson_followed.specs.FollowedEdits.{Removal, if_may_go, removals_named}
use Rattle.meson_followed.specs.Sources.{MetSource, has_path, name_for, named_path, sources_of}

-- Each element gets the name that means there what this one means in the file of this number.
abbrev pub renamed_steps : {S : Type 0} → Project S → ℕ → (new : List ℕ) → List Removal → List Step
renamed_steps p n new rs = map (λ r. renaming (name_for p n new r.base) r.spot) rs

-- unless a source has the path of the new name
abbrev pub if_fresh : {S : Type 0} → Project S → ℕ → List MetSource → (new : List ℕ) → List Removal → Result (List Step) Refusal
if_fresh p n sources new rs = if list_any (has_path (named_path p n new)) sources then Err ThereAlready else Ok (renamed_steps p n new rs)

-- each source at the path of the old name gets the new one, in whatever branch it is
abbrev pub renamed_from : {S : Type 0} → Project S → Placed (Call S) → SharedLists → List (Mark S) → (old new : List ℕ) → Result (List Step) Refusal
renamed_from p c shared marks old new =
    then_ok (removals_named p c.place.file marks (old ∷ []))
    (λ rs. then_ok (if_may_go p c shared rs) (λ found. if_fresh p c.place.file (sources_of p c.place.file marks) new found))

abbrev pub followed_renamed : {S : Type 0} → Project S → Placed (Call S) → SharedLists → (old new : List ℕ) → Result (List Step) Refusal
followed_renamed p c shared old new =
    then_ok (checked_names (old ∷ new ∷ [])) (λ _. then_ok (once sources_key (keyword sources_key c.it) (follow_marks p c))
    (λ marks. renamed_from p c shared marks old new))
