-- What the code saves of a list that it replaces.
use Rattle.std.specs.Prelude.{◌≡◌, ◌≢◌, ℕ, ◌+◌, true, List, [], ◌∷◌, ◌++◌}
use Rattle.meson_syntax.specs.declared.tree.List as rust
use Rattle.meson_syntax.specs.declared.tree.Parsed.{Parsed}
use Rattle.meson_syntax.specs.ListPut.{list_exchanged}
use Rattle.meson_syntax.specs.MovedCode.{moved_list}
use Rattle.meson_steps.specs.declared.journal.Saved.{Saved}
use Rattle.meson_steps.specs.declared.journal.Saved.TheVariants as saved
use Rattle.meson_steps.specs.declared.journal.SavedList.{SavedList}
use Rattle.meson_steps.specs.Journal.{is_saved, MayTake}

abbrev pub Trees : Type 0
Trees = List Parsed

-- Something of this file is saved, and of the others where it was.
pub record IsSavedToo (file : ℕ) (before after : List Saved) : Type 0 where
  pub here : is_saved file after ≡ true
  pub others : (k : ℕ) → k ≢ file → is_saved k after ≡ is_saved k before

-- the tree with a list, in its place, for the one that is there
abbrev pub settled_tree : SavedList → Parsed → Parsed
settled_tree new = list_exchanged new.place.path.steps new.from new.was new.now new.list

-- A list that was parsed, and moved to its place, may take the place of the list that is there.
pub record MayTakeMoved (t : Parsed) (new : SavedList) : Type 0 where
  pub own : rust.List
  pub moved : new.list ≡ moved_list (λ n. n + new.from) own
  pub takes : MayTake t (record new { list = own })

-- A list takes the place of one that took the place of this one.
pub record Follows (last new : SavedList) : Type 0 where
  pub place : last.place ≡ new.place
  pub from : last.from ≡ new.from
  pub now : last.now ≡ new.was

-- A list is put back for the list of `new`, which follows it.
pub record IsPutBackFor (before : Saved) (new : SavedList) (after : Saved) : Type 0 where
  pub last : SavedList
  pub follows : Follows last new
  pub old : before ≡ saved.List last
  pub is : after ≡ saved.List (record last { now = new.now })

-- So is the last of what is saved.
pub record IsFollowed (before : List Saved) (new : SavedList) (after : List Saved) : Type 0 where
  pub more : List Saved
  pub last : Saved
  pub other : Saved
  pub old : before ≡ more ++ last ∷ []
  pub new_last : after ≡ more ++ other ∷ []
  pub is : IsPutBackFor last new other
