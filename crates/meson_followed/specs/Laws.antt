-- What commands promise a user where variables are followed.
use Rattle.std.specs.Prelude.{◌≡◌, ℕ, true, false, List, [], ◌∷◌, ◌++◌, Option, Some, None, Ok}
use Rattle.std.specs.List.{All, Contains}
use Rattle.meson_lex.specs.declared.kinds.Span.{Span}
use Rattle.meson_calls.specs.declared.call.CallRef.{CallRef}
use Rattle.meson_calls.specs.Calls.{Call}
use Rattle.meson_calls.specs.Entering.{is_absolute}
use Rattle.meson_calls.specs.Folders.{IsFileName}
use Rattle.meson_calls.specs.Project.{Placed, Project}
use Rattle.meson_following.specs.Following.{follow_marks}
use Rattle.meson_sharing.specs.Sharing.{is_unshared}
use Rattle.meson_sources.specs.SourceEdits.{inserted_in}
use Rattle.meson_steps.specs.Steps.{Step}
use Rattle.meson_steps.specs.declared.source_change.SharedLists.{SharedLists}
use Rattle.meson_steps.specs.declared.source_change.SharedLists.TheVariants.{Kept}
use Rattle.meson_followed.specs.FollowedEdits.{Removal, followed_added, followed_removed, new_sources, removal_of, removed_steps}
use Rattle.meson_followed.specs.Homes.{Home, homes_of}
use Rattle.meson_followed.specs.Paths.{name_from, path_of}
use Rattle.meson_followed.specs.Renaming.{followed_renamed, renamed_steps}
use Rattle.meson_followed.specs.Sources.{MetSource, named_path, sources_of}

module _ (p : Project Span) (c : Placed (Call Span)) where
  -- Something stands in the call itself, or in the value of a maker that is read for no other target.
  pub data IsForOne (maker : Option CallRef) : Type 0 where
    in_the_call : maker ≡ None → IsForOne maker
    in_a_value : (m : CallRef) → maker ≡ Some m → is_unshared p c m ≡ true → IsForOne maker

  -- a list that may get further sources
  abbrev pub MayHaveMore : Home → Type 0
  MayHaveMore h = let hs = homes_of c.place.file (follow_marks p c) in Contains (hs.holding ++ hs.empties) h

  -- These names come to this target alone: the list is the call's own, or one of those that may get further sources and are for one target.
  pub data GivesToOne (list : CallRef) : Type 0 where
    the_call : list ≡ c.place → GivesToOne list
    a_list : (h : Home) → MayHaveMore h → h.list ≡ list → IsForOne h.maker → GivesToOne list

  -- the sources that the target may have
  abbrev pub met_sources : List MetSource
  met_sources = sources_of p c.place.file (follow_marks p c)

  -- it is there in each evaluation, and the name means it
  pub record IsSurely (name : List ℕ) (s : MetSource) : Type 0 where
    pub is_met : Contains met_sources s
    pub is_sure : s.sure ≡ true
    pub is_meant : s.path ≡ named_path p c.place.file name

  -- those of the names that are added
  abbrev pub added_names : List (List ℕ) → List (List ℕ)
  added_names names = new_sources p c.place.file met_sources names

  -- A source that this name means is there in each evaluation, or one of those that are added is one.
  pub data IsProvided (names : List (List ℕ)) (name : List ℕ) : Type 0 where
    is_there : (s : MetSource) → IsSurely name s → IsProvided names name
    is_added : (new : List ℕ) → Contains (added_names names) new → named_path p c.place.file new ≡ named_path p c.place.file name → IsProvided names name

  -- what is added are some of these names, so that each of them is provided
  pub record Adds (names : List (List ℕ)) : Type 0 where
    pub only_given : All (Contains names) (added_names names)
    pub all_provided : All (IsProvided names) names

  -- These steps add those names, to a list that gives them to this target alone.
  pub record AddsToOne (names : List (List ℕ)) (steps : List Step) : Type 0 where
    pub list : CallRef
    pub are_steps : inserted_in p list (added_names names) ≡ steps
    pub is_for_one : GivesToOne list

  -- a source at the path of one of these names, which is such an element
  pub record IsNamed (names : List (List ℕ)) (r : Removal) : Type 0 where
    pub name : List ℕ
    pub is_given : Contains names name
    pub source : MetSource
    pub is_met : Contains met_sources source
    pub is_meant : source.path ≡ named_path p c.place.file name
    pub is_element : removal_of source ≡ Some r

  -- a source is one of these elements
  pub record Goes (gone : List Removal) (s : MetSource) : Type 0 where
    pub element : Removal
    pub is_element : removal_of s ≡ Some element
    pub is_one : Contains gone element

  -- each source that this name means is one of these elements
  abbrev pub AllGo : List Removal → List ℕ → Type 0
  AllGo gone name = (s : MetSource) → Contains met_sources s → s.path ≡ named_path p c.place.file name → Goes gone s

  -- These steps take away each source that one of the names means, and nothing else.
  pub record Takes (names : List (List ℕ)) (steps : List Step) : Type 0 where
    pub gone : List Removal
    pub are_steps : removed_steps gone ≡ steps
    pub only_named : All (IsNamed names) gone
    pub all_named : All (AllGo gone) names

  -- what is taken away is for this target alone
  pub record TakesFromOne (names : List (List ℕ)) (steps : List Step) : Type 0 where
    pub takes : Takes names steps
    pub are_for_one : All (λ r. IsForOne r.maker) takes.gone

  -- no source has the path that this name means
  abbrev pub IsFresh : List ℕ → Type 0
  IsFresh name = (s : MetSource) → Contains met_sources s → s.path ≡ named_path p c.place.file name → ⊥

  -- These steps give each source that the old name means the new one, which means no source yet, and nothing else gets it.
  pub record Renames (old new : List ℕ) (steps : List Step) : Type 0 where
    pub renamed : List Removal
    pub are_steps : renamed_steps p c.place.file new renamed ≡ steps
    pub only_old : All (IsNamed (old ∷ [])) renamed
    pub all_old : AllGo renamed old
    pub is_fresh : IsFresh new

  -- what is renamed is for this target alone
  pub record RenamesForOne (old new : List ℕ) (steps : List Step) : Type 0 where
    pub renames : Renames old new steps
    pub are_for_one : All (λ r. IsForOne r.maker) renames.renamed

-- the law: where shared lists are kept, no other target gets what is added
abbrev pub AddedGoToOne : Type 0
AddedGoToOne = (p : Project Span) (c : Placed (Call Span)) (names : List (List ℕ)) (steps : List Step) → followed_added p c Kept names ≡ Ok steps
    → AddsToOne p c names steps

-- the law: each source that is named goes, and nothing else
abbrev pub NamedAreRemoved : Type 0
NamedAreRemoved = (p : Project Span) (c : Placed (Call Span)) (shared : SharedLists) (names : List (List ℕ)) (steps : List Step)
    → followed_removed p c shared names ≡ Ok steps → Takes p c names steps

-- the law: where shared lists are kept, no other target loses what is removed
abbrev pub RemovedAreOfOne : Type 0
RemovedAreOfOne = (p : Project Span) (c : Placed (Call Span)) (names : List (List ℕ)) (steps : List Step) → followed_removed p c Kept names ≡ Ok steps
    → TakesFromOne p c names steps

-- the law: no name is added that means a source which is there in each evaluation
abbrev pub SureAreNotAdded : Type 0
SureAreNotAdded = (p : Project Span) (c : Placed (Call Span)) (names : List (List ℕ))
    → All (λ name. (s : MetSource) → IsSurely p c name s → ⊥) (added_names p c names)

-- the law: each name is added that means none
abbrev pub MissingAreAdded : Type 0
MissingAreAdded = (p : Project Span) (c : Placed (Call Span)) (names : List (List ℕ)) → Adds p c names

-- the law: each source at the path of the old name gets the new one, and nothing else
abbrev pub OldAreRenamed : Type 0
OldAreRenamed = (p : Project Span) (c : Placed (Call Span)) (shared : SharedLists) (old new : List ℕ) (steps : List Step)
    → followed_renamed p c shared old new ≡ Ok steps → Renames p c old new steps

-- the law: where shared lists are kept, no other target's source is renamed
abbrev pub RenamedAreOfOne : Type 0
RenamedAreOfOne = (p : Project Span) (c : Placed (Call Span)) (old new : List ℕ) (steps : List Step) → followed_renamed p c Kept old new ≡ Ok steps
    → RenamesForOne p c old new steps

-- the law: a name that is written for a path in the folder of another build file means that path there
abbrev pub NamesMeanPaths : Type 0
NamesMeanPaths = (file text base : List ℕ) → is_absolute text ≡ false → IsFileName base → path_of base (name_from file text base) ≡ path_of file text
