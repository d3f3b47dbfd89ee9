-- What is there after the sources of a target are changed where variables are followed, as to the lists that hold them.
use Rattle.std.specs.Prelude.{◌≡◌, ℕ, List, [], ◌∷◌, map, Ok, Some}
use Rattle.std.specs.List.{All}
use Rattle.meson_lex.specs.declared.kinds.Span.{Span}
use Rattle.meson_syntax.specs.Tree.{Plain}
use Rattle.meson_calls.specs.declared.call.CallName.{CallName}
use Rattle.meson_calls.specs.declared.call.CallRef.{CallRef}
use Rattle.meson_calls.specs.declared.call.Role.TheVariants.{Target}
use Rattle.meson_calls.specs.Calls.{Call}
use Rattle.meson_calls.specs.Finding.{the_call}
use Rattle.meson_calls.specs.Loading.{IsProject, Loaded, project}
use Rattle.meson_calls.specs.Project.{Placed, Project, child}
use Rattle.meson_following.specs.Following.{follow_marks}
use Rattle.meson_sources.specs.Effects.{ListGets, trees_with, trees_without}
use Rattle.meson_steps.specs.declared.source_change.SharedLists.{SharedLists}
use Rattle.meson_steps.specs.declared.source_change.SharedLists.TheVariants.{Kept}
use Rattle.meson_steps.specs.declared.source_change.SourceChange.{SourceChange}
use Rattle.meson_steps.specs.declared.source_change.SourceChange.TheVariants.{Add, Remove, Rename}
use Rattle.meson_steps.specs.ResultLimits.{plain_trees}
use Rattle.meson_steps.specs.Steps.{Step, all_stepped}
use Rattle.meson_steps.specs.WrittenTexts.{string_of}
use Rattle.meson_followed.specs.Changes.{sources_changed}
use Rattle.meson_followed.specs.FollowedEdits.{Removal}
use Rattle.meson_followed.specs.Homes.{home}
use Rattle.meson_followed.specs.Laws.{Adds, AllGo, GivesToOne, IsForOne, IsFresh, IsNamed, added_names}
use Rattle.meson_followed.specs.Paths.{path_of}
use Rattle.meson_followed.specs.Sources.{file_name, name_for, named_path}

module _ (old : Loaded) (c : Placed (Call Span)) (shared : SharedLists) (names : List (List ℕ)) (after : List Plain) where
  -- the list that gets further sources
  abbrev pub home_of : CallRef
  home_of = home (project old) c shared (follow_marks (project old) c)

  -- The list has those of the names after its elements that are not there in each evaluation, and each name means a source that is there in each. Where shared
  -- lists are kept, the list gives them to this target alone.
  pub record NamesCome : Type 0 where
    pub gets : ListGets home_of (added_names (project old) c names) (plain_trees old) after
    pub adds : Adds (project old) c names
    pub for_one : shared ≡ Kept → GivesToOne (project old) c home_of

  -- Each source that one of the names means is gone, and nothing else. Where shared lists are kept, none of them was in a list that another target gets.
  pub record NamesLeave : Type 0 where
    pub gone : List Removal
    pub only_named : All (IsNamed (project old) c names) gone
    pub all_named : All (AllGo (project old) c gone) names
    pub for_one : shared ≡ Kept → All (λ r. IsForOne (project old) c r.maker) gone
    pub left : after ≡ trees_without (map (λ r. r.spot) gone) (plain_trees old)

-- for a name of the file of this number
module _ (p : Project Span) (n : ℕ) (new : List ℕ) where
  -- the name that is written for it in the place of an element
  abbrev pub name_at : Removal → List ℕ
  name_at r = name_for p n new r.base

  -- That one means there what this one means.
  abbrev pub MeansNew : Removal → Type 0
  MeansNew r = path_of (file_name p r.base) (name_at r) ≡ named_path p n new

  -- the trees with a string of that name in the place of each of these elements, and all else as it was
  abbrev pub trees_naming : List Removal → List Plain → List Plain
  trees_naming [] trees = trees
  trees_naming (r ∷ more) trees = trees_naming more (trees_with (string_of (name_at r)) (child r.spot.list r.spot.number ∷ []) trees)

-- In the place of each source that the old name means is a string that means the path of the new one, and all else is as it was. No source had that path. Where
-- shared lists are kept, none of them was in a list that another target gets.
pub record NameChanges (old : Loaded) (c : Placed (Call Span)) (shared : SharedLists) (was new : List ℕ) (after : List Plain) : Type 0 where
  pub renamed : List Removal
  pub only_old : All (IsNamed (project old) c (was ∷ [])) renamed
  pub all_old : AllGo (project old) c renamed was
  pub is_fresh : IsFresh (project old) c new
  pub for_one : shared ≡ Kept → All (λ r. IsForOne (project old) c r.maker) renamed
  pub mean_new : All (MeansNew (project old) c.place.file new) renamed
  pub now : after ≡ trees_naming (project old) c.place.file new renamed (plain_trees old)

abbrev pub SourcesLeft : Loaded → Placed (Call Span) → SourceChange → SharedLists → List Plain → Type 0
SourcesLeft old c (Add names) shared after = NamesCome old c shared names after
SourcesLeft old c (Remove names) shared after = NamesLeave old c shared names after
SourcesLeft old c (Rename was new) shared after = NameChanges old c shared was new after

-- the law: so it is after each change
abbrev pub ChangesLeave : Type 0
ChangesLeave = (old : Loaded) → IsProject old → (target : CallName) (c : Placed (Call Span)) → the_call (project old) Target target ≡ Ok c
    → (change : SourceChange) (shared : SharedLists) (steps : List Step) (after : List Plain)
    → sources_changed (project old) change shared c ≡ Ok steps → all_stepped steps (plain_trees old) ≡ Some after
    → SourcesLeft old c change shared after
