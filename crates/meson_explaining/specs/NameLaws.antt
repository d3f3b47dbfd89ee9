-- What is promised of the name that a refusal means, in the words of a reader.
use Rattle.std.specs.Prelude.{◌≡◌, ◌≢◌, ℕ, List, [], ◌∷◌, ◌++◌, map, Some, Err}
use Rattle.std.specs.List.{All}
use Rattle.meson_calls.specs.Loading.{Loaded, project}
use Rattle.meson_calls.specs.declared.refusal.Refusal.{Refusal}
use Rattle.meson_calls.specs.declared.refusal.Refusal.TheVariants as refusal
use Rattle.meson_plan.specs.Planning.{planned}
use Rattle.meson_steps.specs.declared.command.Command.{Command}
use Rattle.meson_steps.specs.declared.command.Command.TheVariants as command
use Rattle.meson_steps.specs.declared.source_change.SourceChange.TheVariants.{Add, Remove, Rename}
use Rattle.meson_explaining.specs.Names.{meant_name}

-- each name of a command, with the command that has this name alone, as the old name and the new one of a renaming
abbrev pub alone : Command → List (List ℕ × Command)
alone (command.SourcesAdd target sources) = map (λ s. (s, command.SourcesAdd target (s ∷ []))) sources
alone (command.SourcesAddSorted target sources) = map (λ s. (s, command.SourcesAddSorted target (s ∷ []))) sources
alone (command.SourcesRemove target sources) = map (λ s. (s, command.SourcesRemove target (s ∷ []))) sources
alone (command.SourcesRename target old new) = (old, command.SourcesRename target old old) ∷ (new, command.SourcesRename target new new) ∷ []
alone (command.FollowedSources target (Add names) shared) = map (λ s. (s, command.FollowedSources target (Add (s ∷ [])) shared)) names
alone (command.FollowedSources target (Remove names) shared) = map (λ s. (s, command.FollowedSources target (Remove (s ∷ [])) shared)) names
alone (command.FollowedSources target (Rename old new) shared) =
    (old, command.FollowedSources target (Rename old old) shared) ∷ (new, command.FollowedSources target (Rename new new) shared) ∷ []
alone (command.ExtraAdd target sources) = map (λ s. (s, command.ExtraAdd target (s ∷ []))) sources
alone (command.ExtraRemove target sources) = map (λ s. (s, command.ExtraRemove target (s ∷ []))) sources
alone (command.TargetAdd target kind subdir sources) =
    (target, command.TargetAdd target kind subdir []) ∷ map (λ s. (s, command.TargetAdd target kind subdir (s ∷ []))) sources
alone (command.KwargsSet r id pairs) = map (λ p. (p.0, command.KwargsSet r id (p ∷ []))) pairs
alone (command.KwargsAdd r id pairs) = map (λ p. (p.0, command.KwargsAdd r id (p ∷ []))) pairs
alone (command.KwargsRemove r id pairs) = map (λ p. (p.0, command.KwargsRemove r id (p ∷ []))) pairs
alone (command.KwargsDelete r id keys) = map (λ k. (k, command.KwargsDelete r id (k ∷ []))) keys
alone (command.OptionsSet pairs) = map (λ p. (p.0, command.OptionsSet (p ∷ []))) pairs
alone (command.OptionsDelete names) = map (λ n. (n, command.OptionsDelete (n ∷ []))) names
alone _ = []

-- with this name alone the command is not refused for this reason
abbrev pub NotRefused : Loaded → Refusal → List ℕ × Command → Type 0
NotRefused l why other = planned (project l) other.1 ≢ Err why

-- The name is the first with which alone the command is refused for this reason.
pub record IsFirstRefused (l : Loaded) (why : Refusal) (each : List (List ℕ × Command)) (name : List ℕ) : Type 0 where
  pub before : List (List ℕ × Command)
  pub lone : Command
  pub behind : List (List ℕ × Command)
  pub are : each ≡ before ++ (name, lone) ∷ behind
  pub refused : planned (project l) lone ≡ Err why
  pub others : All (NotRefused l why) before

-- the refusals that mean one of the names of a command
pub data MeansName : Refusal → Type 0 where
  bad : MeansName refusal.BadName
  not_found : MeansName refusal.SourceNotFound
  unresolved : MeansName refusal.Unresolved

pub record HasMeantName (l : Loaded) (c : Command) (why : Refusal) : Type 0 where
  pub name : List ℕ
  pub is_meant : meant_name l c why ≡ Some name
  pub is_first : IsFirstRefused l why (alone c) name

-- the law: a command that is refused for such a reason has such a name
abbrev pub MeantNamesAreRefused : Type 0
MeantNamesAreRefused = (l : Loaded) (c : Command) (why : Refusal) → MeansName why → planned (project l) c ≡ Err why → HasMeantName l c why
