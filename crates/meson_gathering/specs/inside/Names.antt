-- The names of files as a set.
use Rattle.std.specs.Prelude.{◌≡◌, ℕ, List, is_some}
use Rattle.std.specs.HashSet.{HashSet, contains_text}
use Rattle.std.specs.declared.string.String.{String}
use Rattle.meson_splice.specs.Files.{position_of_file}
use Rattle.meson_splice.specs.declared.file_set.File.{File}

-- the set has the names of the files and no others
pub record AreNames {Y H : Type 0} (names : HashSet (String Y) H) (files : List File) : Type 0 where
  pub same : (x : List ℕ) → contains_text names x ≡ is_some (position_of_file x files)
