-- Where the literal of a name is written in the build files.
use Rattle.std.specs.Prelude.{ℕ, zero, suc, List, [], ◌∷◌, ◌++◌, codes, length, option_map, option_to_list, take, Option, Some, None}
use Rattle.meson_splice.specs.declared.file_set.File.{File}
use Rattle.meson_splice.specs.Files.{bytes_at}
use Rattle.meson_calls.specs.Loading.{Loaded}
use Rattle.memchr.specs.Find.{matches}
use Rattle.meson_explaining.specs.declared.explanation.Note.{Note}

abbrev pub literal_of : List ℕ → List ℕ
literal_of name = codes "'" ++ (name ++ codes "'")

-- the literal at an offset of the file of that number; the place has no bytes
abbrev pub written_note : List ℕ → ℕ → ℕ → Note
written_note name file at_ = record {
  spot = Some (record { file = file; at = at_; end = at_ });
  text = codes "'" ++ (name ++ codes "' is written here");
}

abbrev pub first_of : List ℕ → Option ℕ
first_of [] = None
first_of (n ∷ ns) = Some n

-- where it is first in the file of that number
abbrev pub written_in : List File → List ℕ → ℕ → List Note
written_in files name file = option_to_list (option_map (written_note name file) (first_of (matches (bytes_at file files) (literal_of name) 0)))

-- in each of the first n files
abbrev pub written_below : List File → List ℕ → ℕ → List Note
written_below files name zero = []
written_below files name (suc n) = written_below files name n ++ written_in files name n

-- the first three of them, of a name if there is one
abbrev pub written_notes : Loaded → Option (List ℕ) → List Note
written_notes l None = []
written_notes l (Some name) = take 3 (written_below l.files name (length l.files))
