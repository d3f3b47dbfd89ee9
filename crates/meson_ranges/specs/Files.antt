-- The edits of the files that differ.
use Rattle.std.specs.Prelude.{◌≡◌, ◌≢◌, ℕ, List, [], ◌∷◌, map}
use Rattle.meson_splice.specs.declared.file_set.File.{File}
use Rattle.meson_ranges.specs.Edits.{AreEdits}
use Rattle.meson_ranges.specs.Ranges.{ranged}
use Rattle.meson_ranges.specs.Trimming.{TextEdit}
use Rattle.meson_ranges.specs.declared.files.FileEdits.{FileEdits}
use Rattle.meson_ranges.specs.declared.ranges.RangedEdit.{RangedEdit}

-- these are the edits of two texts, each with its range in the old one
pub record AreRangedEdits (old new : List ℕ) (ranges : List RangedEdit) : Type 0 where
  pub edits : List TextEdit
  pub are : AreEdits old new edits
  pub with_ranges : ranges ≡ map (ranged old) edits

-- of the files in the same places those that differ, in order, each with its edits
pub data AreFileEdits : List File → List File → List FileEdits → Type 0 where
  no_files : AreFileEdits [] [] []
  equal : (o n : File) (old new : List File) (changes : List FileEdits) → o.bytes ≡ n.bytes → AreFileEdits old new changes
      → AreFileEdits (o ∷ old) (n ∷ new) changes
  differing : (o n : File) (old new : List File) (change : FileEdits) (changes : List FileEdits) → o.bytes ≢ n.bytes → change.name.now ≡ o.name
      → AreRangedEdits o.bytes n.bytes change.edits.items → AreFileEdits old new changes
      → AreFileEdits (o ∷ old) (n ∷ new) (change ∷ changes)
