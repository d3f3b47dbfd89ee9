-- The position of a name among the names of files is that of its file.
use Rattle.std.specs.Prelude.{not, cond, nat_lt, bytes_eq}
use Rattle.std.specs.List.{position_or_len}
use Rattle.meson_calls.proofs.Words.{◌≡◌, ℕ, suc, ◌+◌, List, [], ◌∷◌, length, Some, None, refl, ap, ap₂, File, names_of, position_of_name}
use Rattle.meson_splice.specs.Files.{position_of_file}

module _ (name : List ℕ) where
  place_alike : (files : List File) → position_or_len (λ (f : File). bytes_eq f.name name) files ≡ position_or_len (λ (x : List ℕ). bytes_eq x name) (names_of files)
  place_alike [] = refl
  place_alike (f ∷ files) = ap (λ n. cond (not (bytes_eq f.name name)) (1 + n) 0) (place_alike files)

  as_many : (files : List File) → length files ≡ length (names_of files)
  as_many [] = refl
  as_many (f ∷ files) = ap suc (as_many files)

  pub position_named : (files : List File) → position_of_file name files ≡ position_of_name name (names_of files)
  position_named files = ap₂ (λ n m. cond (nat_lt n m) (Some n) None) (place_alike files) (as_many files)
