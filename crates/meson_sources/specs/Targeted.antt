-- The steps of a command on the sources or the extra files of a target, as the code has them.
use Rattle.std.specs.Prelude.{ℕ, List, Result}
use Rattle.meson_splice.specs.Patch.{then_ok}
use Rattle.meson_calls.specs.declared.refusal.Refusal.{Refusal}
use Rattle.meson_calls.specs.Calls.{Call}
use Rattle.meson_sources.specs.declared.targeting.TargetChange.{TargetChange}
use Rattle.meson_sources.specs.declared.targeting.TargetChange.TheVariants.{SourcesAdded, SourcesRemoved, ExtraAdded, ExtraRemoved}
use Rattle.meson_calls.specs.declared.call.CallName.{CallName}
use Rattle.meson_calls.specs.declared.call.Role.TheVariants as role
use Rattle.meson_calls.specs.Project.{Project, Placed}
use Rattle.meson_calls.specs.Finding.{the_call}
use Rattle.meson_lex.specs.declared.kinds.Span.{Span}
use Rattle.meson_splice.specs.declared.file_set.File.{File}
use Rattle.meson_sources.specs.Sorting.{sources_sorted}
use Rattle.meson_steps.specs.Steps.{Step}
use Rattle.meson_sources.specs.SourceEdits.{sources_added, sources_removed, sources_renamed, extra_added, extra_removed}

-- the steps that a change of a target means
abbrev pub change_steps : {S : Type 0} → Project S → TargetChange → List (List ℕ) → Placed (Call S) → Result (List Step) Refusal
change_steps p SourcesAdded names c = sources_added p c names
change_steps p SourcesRemoved names c = sources_removed p c names
change_steps p ExtraAdded names c = extra_added p c names
change_steps p ExtraRemoved names c = extra_removed p c names

abbrev pub target_steps : {S : Type 0} → Project S → CallName → TargetChange → List (List ℕ) → Result (List Step) Refusal
target_steps p target change names = then_ok (the_call p role.Target target) (change_steps p change names)

-- the steps that add sources to a target, each in its place if their list is in order
abbrev pub sorted_steps : List File → Project Span → CallName → List (List ℕ) → Result (List Step) Refusal
sorted_steps files p target names = then_ok (the_call p role.Target target) (λ c. sources_sorted files p c names)

-- the steps that rename the sources of a target
abbrev pub renamed_steps : {S : Type 0} → Project S → CallName → (old new : List ℕ) → Result (List Step) Refusal
renamed_steps p target old new = then_ok (the_call p role.Target target) (λ c. sources_renamed p c old new)
