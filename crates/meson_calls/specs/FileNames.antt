-- The names of the files of a project, as a set, and the files that `subdir` calls mean among these.
use Rattle.std.specs.Prelude.{◌≡◌, ℕ, Bool, false, List, bytes_eq, Option, Some, None, option_and_then}
use Rattle.std.specs.HashSet.{HashSet, contains_by}
use Rattle.std.specs.List.{list_any}
use denote.Ref.{Bor}
use Rattle.meson_splice.specs.declared.file_set.File.{File}
use Rattle.meson_syntax.specs.Paths.{nth}
use Rattle.meson_calls.specs.Folders.{file_in}

-- whether a file of this name is among some files
abbrev pub is_file : List File → List ℕ → Bool
is_file files name = list_any (λ f. bytes_eq f.name name) files

-- A set has the names of files and no others.
pub record AreFileNames {H : Type 0} (names : HashSet (Bor (List ℕ)) H) (files : List File) : Type 0 where
  pub same : (x : List ℕ) → contains_by (λ k. bytes_eq x k.now) names ≡ is_file files x

abbrev pub is_entered : List File → Option (List ℕ) → Bool
is_entered files None = false
is_entered files (Some name) = is_file files name

-- the name that a `subdir` of a folder means in a file of this number
abbrev pub meant_in : List File → ℕ → Option (List ℕ) → Option (List ℕ)
meant_in files n folder = option_and_then (λ f. option_and_then (file_in f.name) folder) (nth files n)
