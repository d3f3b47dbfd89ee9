-- What a command that is done changes though its words do not say so. Places are those of the project as the command finds it.
use Rattle.std.specs.Prelude.{List, [], ◌∷◌, ◌++◌, flat_map}
use Rattle.meson_calls.specs.Loading.{Loaded}
use Rattle.meson_steps.specs.declared.command.Command.{Command}
use Rattle.meson_steps.specs.declared.command.Command.TheVariants as command
use Rattle.meson_explaining.specs.declared.explanation.Note.{Note}
use Rattle.meson_warnings.specs.Additions.{into_call}
use Rattle.meson_warnings.specs.LeftVariables.{left_variables}
use Rattle.meson_warnings.specs.Overwrites.{lost_value}
use Rattle.meson_warnings.specs.SharedLists.{shared_by_adding, shared_by_removing}
use Rattle.meson_warnings.specs.UnsetNames.{unset_names}

abbrev pub warnings : Loaded → Command → List Note
warnings l (command.KwargsSet r name pairs) = flat_map (λ p. lost_value l r name p.0) pairs ++ unset_names l r name pairs
warnings l (command.KwargsAdd r name pairs) = unset_names l r name pairs
warnings l (command.SourcesAdd target names) = into_call l target names ++ shared_by_adding l target names
warnings l (command.SourcesAddSorted target names) = into_call l target names ++ shared_by_adding l target names
warnings l (command.SourcesRemove target names) = shared_by_removing l target names
warnings l (command.SourcesRename target old new) = shared_by_removing l target (old ∷ [])
warnings l (command.TargetRemove target) = left_variables l target
warnings l _ = []
