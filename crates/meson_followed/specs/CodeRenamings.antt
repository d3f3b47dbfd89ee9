-- The names that the code writes where sources are renamed.
use Rattle.std.specs.Prelude.{ℕ, List, [], ◌∷◌, map, Result, Ok, Err}
use Rattle.meson_lex.specs.declared.kinds.Span.{Span}
use Rattle.meson_calls.specs.declared.refusal.Refusal.{Refusal}
use Rattle.meson_calls.specs.Calls.{Call}
use Rattle.meson_calls.specs.Project.{Placed, Project}
use Rattle.meson_following.specs.Following.{follow_marks}
use Rattle.meson_steps.specs.declared.source_change.SourceChange.{SourceChange}
use Rattle.meson_steps.specs.declared.source_change.SourceChange.TheVariants.{Add, Remove, Rename}
use Rattle.meson_followed.specs.FollowedEdits.{Removal, removals_named}
use Rattle.meson_followed.specs.Sources.{name_for}

abbrev pub or_none : {X : Type 0} → Result (List X) Refusal → List X
or_none (Ok xs) = xs
or_none (Err e) = []

-- in the place of these elements, for what a name means in the file of this number
abbrev pub written_for : {S : Type 0} → Project S → ℕ → (new : List ℕ) → List Removal → List (List ℕ)
written_for p n new rs = map (λ r. name_for p n new r.base) rs

-- where the sources of one name get another one
abbrev pub written_names : Project Span → Placed (Call Span) → (old new : List ℕ) → List (List ℕ)
written_names p c old new = written_for p c.place.file new (or_none (removals_named p c.place.file (follow_marks p c) (old ∷ [])))

-- by a change
abbrev pub names_written : Project Span → Placed (Call Span) → SourceChange → List (List ℕ)
names_written p c (Add names) = names
names_written p c (Remove names) = []
names_written p c (Rename old new) = written_names p c old new
