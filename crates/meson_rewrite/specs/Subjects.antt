-- The name that the refusal of a command means: the id of its call, its folder, or one of its names.
use Rattle.std.specs.Prelude.{ℕ, List, Option, Some, None}
use Rattle.meson_calls.specs.Loading.{Loaded}
use Rattle.meson_calls.specs.declared.refusal.Refusal.{Refusal}
use Rattle.meson_calls.specs.declared.refusal.Refusal.TheVariants as refusal
use Rattle.meson_explaining.specs.Names.{meant_name}
use Rattle.meson_steps.specs.declared.argument.PlaceName.{PlaceName}
use Rattle.meson_steps.specs.declared.argument.PlaceName.TheVariants as name
use Rattle.meson_steps.specs.declared.command.CodePlace.{CodePlace}
use Rattle.meson_steps.specs.declared.command.CodePlace.TheVariants as place
use Rattle.meson_steps.specs.declared.command.Command.{Command}
use Rattle.meson_steps.specs.declared.command.Command.TheVariants.{SourcesAdd, SourcesAddSorted, SourcesRemove, SourcesRename, FollowedSources, ExtraAdd, ExtraRemove, TargetAdd, TargetRemove, TargetInfo, KwargsSet, KwargsAdd, KwargsRemove, KwargsDelete, KwargsInfo, OptionsSet, OptionsDelete, Argument, ArgumentInfo, CodeInsert, CodeRemove}

-- the id of a call or a variable; a line has none
abbrev pub id_in : PlaceName → Option (List ℕ)
id_in (name.Project id) = Some id
id_in (name.Call callee id) = Some id
id_in (name.Variable id) = Some id
id_in (name.Line file line) = None

-- that of the statement beside which code is inserted; the end of a file has no id
abbrev pub anchor_id : CodePlace → Option (List ℕ)
anchor_id (place.Above s) = id_in s.name
anchor_id (place.Below s) = id_in s.name
anchor_id (place.End file) = None

-- the id of the call that the command is about; default options are of no id
abbrev pub id_of : Command → Option (List ℕ)
id_of (SourcesAdd target sources) = Some target.id
id_of (SourcesAddSorted target sources) = Some target.id
id_of (SourcesRemove target sources) = Some target.id
id_of (SourcesRename target old new) = Some target.id
id_of (FollowedSources target change shared) = Some target.id
id_of (ExtraAdd target sources) = Some target.id
id_of (ExtraRemove target sources) = Some target.id
id_of (TargetAdd target kind subdir sources) = Some target
id_of (TargetRemove target) = Some target.id
id_of (TargetInfo target reading) = Some target.id
id_of (KwargsSet role name pairs) = Some name.id
id_of (KwargsAdd role name pairs) = Some name.id
id_of (KwargsRemove role name pairs) = Some name.id
id_of (KwargsDelete role name keys) = Some name.id
id_of (KwargsInfo role name) = Some name.id
id_of (OptionsSet pairs) = None
id_of (OptionsDelete names) = None
id_of (Argument n change) = id_in n.place.name
id_of (ArgumentInfo n) = id_in n.place.name
id_of (CodeInsert place code blank) = anchor_id place
id_of (CodeRemove statement unused) = id_in statement.name

-- the folder of a new target
abbrev pub folder_of : Command → Option (List ℕ)
folder_of (TargetAdd target kind subdir sources) = Some subdir
folder_of _ = None

-- By the reason. Of several sources, keys or options it is the first with which alone the command would be refused for that reason; other reasons name what
-- they mean, or mean nothing that the command names.
abbrev pub subject_of : Loaded → Command → Refusal → Option (List ℕ)
subject_of found c refusal.NotFound = id_of c
subject_of found c refusal.Ambiguous = id_of c
subject_of found c refusal.NameTaken = id_of c
subject_of found c refusal.NoFile = folder_of c
subject_of found c why = meant_name found c why
