-- What a change of a target's sources means, where variables are followed.
use Rattle.std.specs.Prelude.{ℕ, List, [], ◌∷◌, Result}
use Rattle.meson_splice.specs.Patch.{then_ok}
use Rattle.meson_calls.specs.declared.call.CallName.{CallName}
use Rattle.meson_calls.specs.declared.call.Role.TheVariants.{Target}
use Rattle.meson_calls.specs.declared.refusal.Refusal.{Refusal}
use Rattle.meson_calls.specs.Calls.{Call}
use Rattle.meson_calls.specs.Finding.{the_call}
use Rattle.meson_calls.specs.Project.{Placed, Project}
use Rattle.meson_steps.specs.declared.source_change.SharedLists.{SharedLists}
use Rattle.meson_steps.specs.declared.source_change.SourceChange.{SourceChange}
use Rattle.meson_steps.specs.declared.source_change.SourceChange.TheVariants.{Add, Remove, Rename}
use Rattle.meson_steps.specs.Steps.{Step}
use Rattle.meson_followed.specs.FollowedEdits.{followed_added, followed_removed}
use Rattle.meson_followed.specs.Renaming.{followed_renamed}

abbrev pub names_of : SourceChange → List (List ℕ)
names_of (Add names) = names
names_of (Remove names) = names
names_of (Rename old new) = old ∷ new ∷ []

-- for the target of a call
abbrev pub sources_changed : {S : Type 0} → Project S → SourceChange → SharedLists → Placed (Call S) → Result (List Step) Refusal
sources_changed p (Add names) shared c = followed_added p c shared names
sources_changed p (Remove names) shared c = followed_removed p c shared names
sources_changed p (Rename old new) shared c = followed_renamed p c shared old new

-- for the one target that a name means
abbrev pub target_changed : {S : Type 0} → Project S → CallName → SourceChange → SharedLists → Result (List Step) Refusal
target_changed p target change shared = then_ok (the_call p Target target) (sources_changed p change shared)
