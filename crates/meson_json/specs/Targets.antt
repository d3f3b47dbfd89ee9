-- The command of an operation on a target.
use Rattle.std.specs.Prelude.{ℕ, Bool, false, true, List, [], ◌∷◌, Option, Some, None}
use Rattle.meson_calls.specs.declared.call.CallName.{CallName}
use Rattle.meson_calls.specs.declared.call.Reading.{Reading}
use Rattle.meson_calls.specs.declared.call.Reading.TheVariants.{Written, Followed}
use Rattle.meson_steps.specs.declared.command.Command.{Command}
use Rattle.meson_steps.specs.declared.command.Command.TheVariants as command
use Rattle.meson_steps.specs.declared.source_change.SharedLists.{SharedLists}
use Rattle.meson_steps.specs.declared.source_change.SharedLists.TheVariants.{Kept}
use Rattle.meson_steps.specs.declared.source_change.SourceChange.TheVariants as change
use Rattle.meson_json.specs.declared.target.TargetMembers.{TargetMembers}
use Rattle.meson_json.specs.declared.target.TargetOperation.{TargetOperation}
use Rattle.meson_json.specs.declared.target.TargetOperation.TheVariants as target

-- what names the target
abbrev pub named_by : TargetMembers → CallName
named_by m = record { id = m.target; folder = m.folder }

-- where variables are to be followed, lists that another target gets too stay as they are
abbrev pub kept_lists : (follow : Bool) → Option SharedLists
kept_lists false = None
kept_lists true = Some Kept

-- how build files are read, by whether variables are followed
abbrev pub reading_of : (follow : Option SharedLists) → Reading
reading_of None = Written
reading_of (Some shared) = Followed

-- sources are added: where variables are followed, if they are, and else each in its place if they are to be sorted
abbrev pub addition_of : CallName → List (List ℕ) → (sorted : Bool) → (follow : Option SharedLists) → Command
addition_of target sources sorted (Some shared) = command.FollowedSources target (change.Add sources) shared
addition_of target sources true None = command.SourcesAddSorted target sources
addition_of target sources false None = command.SourcesAdd target sources

-- sources are removed: where variables are followed, if they are
abbrev pub removal_of : CallName → List (List ℕ) → (follow : Option SharedLists) → Command
removal_of target sources (Some shared) = command.FollowedSources target (change.Remove sources) shared
removal_of target sources None = command.SourcesRemove target sources

abbrev pub target_command : TargetOperation → TargetMembers → Command
target_command target.SourcesAdd m = addition_of (named_by m) m.sources m.sorted m.follow
target_command target.SourcesRemove m = removal_of (named_by m) m.sources m.follow
target_command target.TargetRemove m = command.TargetRemove (named_by m)
target_command target.TargetAdd m = command.TargetAdd m.target m.target_kind m.subdir m.sources
target_command target.ExtraAdd m = command.ExtraAdd (named_by m) m.sources
target_command target.ExtraRemove m = command.ExtraRemove (named_by m) m.sources
target_command target.Info m = command.TargetInfo (named_by m) (reading_of m.follow)

-- a source gets another name: where variables are followed, if they are
abbrev pub renaming_to : CallName → (old new : List ℕ) → (follow : Option SharedLists) → Command
renaming_to target old new (Some shared) = command.FollowedSources target (change.Rename old new) shared
renaming_to target old new None = command.SourcesRename target old new

-- the command that renames sources, if there are an old name and a new one and no other
abbrev pub renaming_of : CallName → List (List ℕ) → (follow : Option SharedLists) → Option Command
renaming_of target [] follow = None
renaming_of target (old ∷ []) follow = None
renaming_of target (old ∷ new ∷ []) follow = Some (renaming_to target old new follow)
renaming_of target (old ∷ new ∷ more ∷ names) follow = None
