-- The edits that a command means, or why it is refused. Meson manual, Rewriter.
use Rattle.std.specs.Prelude.{◌≡◌, List, [], codes, Result, Ok}
use Rattle.meson_splice.specs.Patch.{then_ok}
use Rattle.meson_calls.specs.declared.call.Role.{Role}
use Rattle.meson_calls.specs.declared.call.Role.TheVariants as role
use Rattle.meson_steps.specs.declared.command.Command.{Command}
use Rattle.meson_steps.specs.declared.command.Command.TheVariants as command
use Rattle.meson_calls.specs.declared.refusal.Refusal.{Refusal}
use Rattle.meson_calls.specs.Loading.{Loaded, project}
use Rattle.meson_calls.specs.Project.{Project}
use Rattle.meson_calls.specs.Calls.{Call}
use Rattle.meson_calls.specs.Finding.{the_call}
use Rattle.meson_calls.specs.NamedArguments.{sources_key}
use Rattle.meson_details.specs.Once.{call_told, only_once}
use Rattle.meson_sources.specs.SourceEdits.{extra_key, sources_added, sources_removed, sources_renamed, extra_added, extra_removed}
use Rattle.meson_sources.specs.Targeted.{sorted_steps}
use Rattle.meson_followed.specs.Changes.{target_changed}
use Rattle.meson_targets.specs.TargetEdits.{target_added, target_removed}
use Rattle.meson_keywords.specs.Tasks.{each_made, set_entry, delete_entry, add_entry, remove_entry, set_option_entry, delete_option_entry}
use Rattle.meson_keywords.specs.TaskSteps.{call_changed}
use Rattle.meson_places.specs.Arguments.{MayBeMade, argument_steps}
use Rattle.meson_places.specs.NamedValues.{value_place}
use Rattle.meson_code.specs.Insertion.{code_steps}
use Rattle.meson_code.specs.Removing.{code_removed}
use Rattle.meson_steps.specs.Done.{Meaning}
use Rattle.meson_steps.specs.Steps.{Step}
use Rattle.meson_calls.specs.Searching.{anywhere}

-- ---- commands that change nothing: what they report may be there once only

abbrev pub target_told : {S : Type 0} → Call S → Result (List Step) Refusal
target_told c = then_ok (only_once sources_key c) (λ _. then_ok (only_once extra_key c) (λ _. Ok []))

abbrev pub call_asked : {S : Type 0} → Role → Call S → Result (List Step) Refusal
call_asked r c = then_ok (call_told r c) (λ _. Ok [])

-- ---- commands

-- what a command means by the calls of a project alone; nothing where sources are added in order, or a value is changed or reported
abbrev pub planned : {S : Type 0} → Project S → Command → Result (List Step) Refusal
planned p (command.SourcesAdd target sources) = then_ok (the_call p role.Target target) (λ c. sources_added p c sources)
planned p (command.SourcesRemove target sources) = then_ok (the_call p role.Target target) (λ c. sources_removed p c sources)
planned p (command.SourcesRename target old new) = then_ok (the_call p role.Target target) (λ c. sources_renamed p c old new)
planned p (command.FollowedSources target change shared) = target_changed p target change shared
planned p (command.ExtraAdd target sources) = then_ok (the_call p role.Target target) (λ c. extra_added p c sources)
planned p (command.ExtraRemove target sources) = then_ok (the_call p role.Target target) (λ c. extra_removed p c sources)
planned p (command.TargetAdd target kind subdir sources) = target_added p target kind subdir sources
planned p (command.TargetRemove target) = then_ok (the_call p role.Target target) (λ c. target_removed p c)
planned p (command.TargetInfo target reading) = then_ok (the_call p role.Target target) (λ c. target_told c.it)
planned p (command.KwargsSet r name pairs) = then_ok (the_call p r name) (call_changed p (each_made (set_entry r) pairs))
planned p (command.KwargsAdd r name pairs) = then_ok (the_call p r name) (call_changed p (each_made (add_entry r) pairs))
planned p (command.KwargsRemove r name pairs) = then_ok (the_call p r name) (call_changed p (each_made (remove_entry r) pairs))
planned p (command.KwargsDelete r name keys) = then_ok (the_call p r name) (call_changed p (each_made (delete_entry r) keys))
planned p (command.KwargsInfo r name) = then_ok (the_call p r name) (λ c. call_asked r c.it)
planned p (command.OptionsSet pairs) = then_ok (the_call p role.Project (anywhere (codes "/"))) (call_changed p (each_made set_option_entry pairs))
planned p (command.OptionsDelete names) = then_ok (the_call p role.Project (anywhere (codes "/"))) (call_changed p (each_made delete_option_entry names))
planned p (command.SourcesAddSorted target sources) = Ok []
planned p (command.Argument name change) = Ok []
planned p (command.CodeInsert place code blank) = Ok []
planned p (command.CodeRemove statement unused) = Ok []
planned p (command.ArgumentInfo name) = Ok []

-- What a command means. A change of a value, whose values may be given, also reads the files: where lines begin, and how its neighbours are written. So does an
-- addition of sources in order: whether a comment comes after the first element, which no tree has. A value that is reported has to be there.
abbrev pub Means : Loaded → Command → Meaning → Type 0
Means l (command.SourcesAddSorted target sources) meant = sorted_steps l.files (project l) target sources ≡ meant
Means l (command.Argument name change) meant = (may : MayBeMade change) × (argument_steps l name change may ≡ meant)
Means l (command.CodeInsert place code blank) meant = code_steps l place code blank ≡ meant
Means l (command.CodeRemove statement unused) meant = code_removed l statement unused ≡ meant
Means l (command.ArgumentInfo name) meant = then_ok (value_place l name) (λ c. Ok []) ≡ meant
Means l c meant = planned (project l) c ≡ meant
