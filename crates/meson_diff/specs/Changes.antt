-- The changes of an alignment: lines that are removed, and lines that are added in their place.
use Rattle.std.specs.Prelude.{ℕ, List, [], ◌∷◌, ◌++◌}
use Rattle.meson_diff.specs.Alignment.{NoneOfBoth, marked}
use Rattle.meson_diff.specs.declared.entry.Entry.{Entry}
use Rattle.meson_diff.specs.declared.entry.Mark.TheVariants.{Kept, Gone, Come}

-- The entries are changes, with one kept line between any two. In each change the removed lines are before the added ones; either may be empty. Of the first 65
-- lines of each none is one of both: so none of these could have been kept as well.
pub data AreChanges : List Entry → Type 0 where
  last_change : (gone come : List (List ℕ)) → NoneOfBoth gone come → AreChanges (marked Gone gone ++ marked Come come)
  change : (gone come : List (List ℕ)) (line : List ℕ) (behind : List Entry) → NoneOfBoth gone come → AreChanges behind
      → AreChanges (marked Gone gone ++ (marked Come come ++ (marked Kept (line ∷ []) ++ behind)))
