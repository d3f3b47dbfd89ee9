-- Names of files by their numbers.
use Rattle.std.proofs.Common.{◌≡◌, ℕ, zero, suc, ◌<◌, ◌≤◌, List, [], ◌∷◌, length, refl, arith}
use Rattle.std.specs.Prelude.{slice_index_or}
use Rattle.meson_splice.specs.declared.file_set.File.{File}
use Rattle.meson_calls.specs.Loading.{name_of_file}

pub name_there : (files : List File) (i : ℕ) (d : File) → i < length files → (slice_index_or files i d).name ≡ name_of_file i files
name_there [] i d within = absurd (omega (arith, within))
name_there (f ∷ files) zero d within = refl
name_there (f ∷ files) (suc i) d within = let below : i < length files = omega (arith, within) in name_there files i d below

pub name_past : (files : List File) (i : ℕ) → length files ≤ i → name_of_file i files ≡ []
name_past [] i past = refl
name_past (f ∷ files) zero past = absurd (omega (arith, past))
name_past (f ∷ files) (suc i) past = let below : length files ≤ i = omega (arith, past) in name_past files i below
