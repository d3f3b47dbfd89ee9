-- Lists of files.
use Rattle.std.specs.Prelude.{◌≢◌, ℕ, zero, suc, if◌then◌else◌, List, [], ◌∷◌, Option, bytes_eq, position}
use Rattle.std.specs.List.{AllPairs}
use Rattle.meson_splice.specs.declared.file_set.File.{File}

-- no two files have one name
abbrev pub IsDistinct : List File → Type 0
IsDistinct files = AllPairs (λ a b. a.name ≢ b.name) files

-- the place of the file of that name
abbrev pub position_of_file : List ℕ → List File → Option ℕ
position_of_file name files = position (λ f. bytes_eq f.name name) files

-- the bytes of file i
abbrev pub bytes_at : ℕ → List File → List ℕ
bytes_at i [] = []
bytes_at zero (f ∷ files) = f.bytes
bytes_at (suc i) (f ∷ files) = bytes_at i files

-- the files with other bytes in file i
abbrev pub with_bytes : ℕ → List ℕ → List File → List File
with_bytes i bytes [] = []
with_bytes zero bytes (f ∷ files) = record f { bytes = bytes } ∷ files
with_bytes (suc i) bytes (f ∷ files) = f ∷ with_bytes i bytes files

-- how many files have other bytes than those of the same place
abbrev pub differing : List File → List File → ℕ
differing (f ∷ before) (g ∷ after) = if bytes_eq f.bytes g.bytes then differing before after else suc (differing before after)
differing _ _ = 0
