-- The members of an entry that have an effect.
use Rattle.std.specs.Prelude.{ℕ, List, [], ◌∷◌, Bool, not, codes, bytes_eq, find, Option}
use Rattle.std.specs.List.{list_any}
use Rattle.serde_json.specs.Data.{Members}
use Rattle.meson_json.specs.Each.{names_of_members}
use Rattle.meson_steps.specs.declared.argument.ValueChange.{ValueChange}
use Rattle.meson_steps.specs.declared.argument.ValueChange.TheVariants as change
use Rattle.meson_steps.specs.declared.command.CodePlace.{CodePlace}
use Rattle.meson_steps.specs.declared.command.CodePlace.TheVariants as place
use Rattle.meson_steps.specs.declared.command.Command.{Command}
use Rattle.meson_steps.specs.declared.command.Command.TheVariants as command
use Rattle.meson_steps.specs.declared.source_change.SourceChange.{SourceChange}
use Rattle.meson_steps.specs.declared.source_change.SourceChange.TheVariants as sources

-- those that a change of a value uses
abbrev pub value_members : ValueChange → List (List ℕ)
value_members (change.Set g) = codes "function" ∷ codes "id" ∷ codes "key" ∷ codes "in" ∷ codes "values" ∷ []
value_members (change.SetAll gs) = codes "function" ∷ codes "id" ∷ codes "key" ∷ codes "in" ∷ codes "values" ∷ []
value_members (change.Add gs) =
    codes "function" ∷ codes "id" ∷ codes "key" ∷ codes "in" ∷ codes "values" ∷ codes "sorted" ∷ []
value_members (change.AddAfter g gs) =
    codes "function" ∷ codes "id" ∷ codes "key" ∷ codes "in" ∷ codes "values" ∷ codes "after" ∷ codes "sorted" ∷ []
value_members (change.AddSorted gs) =
    codes "function" ∷ codes "id" ∷ codes "key" ∷ codes "in" ∷ codes "values" ∷ codes "sorted" ∷ []
value_members (change.Remove gs) = codes "function" ∷ codes "id" ∷ codes "key" ∷ codes "in" ∷ codes "values" ∷ []
value_members (change.Replace old new) = codes "function" ∷ codes "id" ∷ codes "key" ∷ codes "in" ∷ codes "values" ∷ []
value_members change.Delete = codes "function" ∷ codes "id" ∷ codes "key" ∷ codes "in" ∷ []

-- those that an insertion uses
abbrev pub code_members : CodePlace → List (List ℕ)
code_members (place.Above search) = codes "code" ∷ codes "blank" ∷ codes "function" ∷ codes "id" ∷ codes "in" ∷ []
code_members (place.Below search) = codes "code" ∷ codes "blank" ∷ codes "function" ∷ codes "id" ∷ codes "in" ∷ []
code_members (place.End file) = codes "code" ∷ codes "blank" ∷ codes "file" ∷ []

-- those that a change of sources uses where variables are followed
abbrev pub source_members : SourceChange → List (List ℕ)
source_members (sources.Add names) = codes "target" ∷ codes "sources" ∷ codes "in" ∷ codes "sorted" ∷ codes "follow" ∷ []
source_members (sources.Remove names) = codes "target" ∷ codes "sources" ∷ codes "in" ∷ codes "follow" ∷ []
source_members (sources.Rename old new) = codes "target" ∷ codes "sources" ∷ codes "in" ∷ codes "follow" ∷ []

-- those that the operation of a command uses
abbrev pub used_members : Command → List (List ℕ)
used_members (command.SourcesAdd target sources) = codes "target" ∷ codes "sources" ∷ codes "in" ∷ codes "sorted" ∷ codes "follow" ∷ []
used_members (command.SourcesAddSorted target sources) = codes "target" ∷ codes "sources" ∷ codes "in" ∷ codes "sorted" ∷ codes "follow" ∷ []
used_members (command.SourcesRemove target sources) = codes "target" ∷ codes "sources" ∷ codes "in" ∷ codes "follow" ∷ []
used_members (command.FollowedSources target change shared) = source_members change
used_members (command.SourcesRename target old new) = codes "target" ∷ codes "sources" ∷ codes "in" ∷ codes "follow" ∷ []
used_members (command.ExtraAdd target sources) = codes "target" ∷ codes "sources" ∷ codes "in" ∷ []
used_members (command.ExtraRemove target sources) = codes "target" ∷ codes "sources" ∷ codes "in" ∷ []
used_members (command.TargetAdd target kind subdir sources) = codes "target" ∷ codes "sources" ∷ codes "subdir" ∷ codes "target_type" ∷ []
used_members (command.TargetRemove target) = codes "target" ∷ codes "in" ∷ []
used_members (command.TargetInfo target reading) = codes "target" ∷ codes "in" ∷ codes "follow" ∷ []
used_members (command.KwargsSet role name pairs) = codes "function" ∷ codes "id" ∷ codes "kwargs" ∷ codes "in" ∷ []
used_members (command.KwargsDelete role name keys) = codes "function" ∷ codes "id" ∷ codes "kwargs" ∷ codes "in" ∷ []
used_members (command.KwargsAdd role name pairs) = codes "function" ∷ codes "id" ∷ codes "kwargs" ∷ codes "in" ∷ []
used_members (command.KwargsRemove role name pairs) = codes "function" ∷ codes "id" ∷ codes "kwargs" ∷ codes "in" ∷ []
used_members (command.KwargsInfo role name) = codes "function" ∷ codes "id" ∷ codes "in" ∷ []
used_members (command.OptionsSet pairs) = codes "options" ∷ []
used_members (command.OptionsDelete names) = codes "options" ∷ []
used_members (command.Argument name c) = value_members c
used_members (command.CodeInsert p code blank) = code_members p
used_members (command.CodeRemove statement unused) = codes "function" ∷ codes "id" ∷ codes "in" ∷ codes "unused" ∷ []
used_members (command.ArgumentInfo name) = codes "function" ∷ codes "id" ∷ codes "key" ∷ codes "in" ∷ []

-- one of these, or one that says which command it is
abbrev pub is_known : Command → List ℕ → Bool
is_known command name = list_any (bytes_eq name) (codes "type" ∷ codes "operation" ∷ used_members command)

-- the first of an entry that is not known, in the order of the bytes of the names
abbrev pub unknown_in : Command → Members → Option (List ℕ)
unknown_in command members = find (λ name. not (is_known command name)) (names_of_members members)
