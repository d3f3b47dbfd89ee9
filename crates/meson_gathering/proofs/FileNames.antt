-- The names of files at their places.
use Rattle.std.proofs.Common.{◌≡◌, ℕ, zero, suc, ◌<◌, List, [], ◌∷◌, length, get_or, refl, arith}
use Rattle.std.specs.Prelude.{All}
use Rattle.std.proofs.lemmas.List.Elements.{All-head, All-tail}
use Rattle.meson_splice.specs.declared.file_set.File.{File}
use Rattle.meson_calls.specs.Folders.{IsFileName}
use Rattle.meson_calls.specs.Loading.{HasFileName, name_of_file}

pub named_at : (files : List File) (i : ℕ) → i < length files → All HasFileName files → IsFileName (name_of_file i files)
named_at [] i within all = absurd (omega arith)
named_at (f ∷ files) zero within all = All-head HasFileName f files all
named_at (f ∷ files) (suc i) within all = let below : i < length files = omega arith in named_at files i below (All-tail HasFileName f files all)

pub name_of : (files : List File) (i : ℕ) (d : File) → i < length files → (get_or files i d).name ≡ name_of_file i files
name_of [] i d within = absurd (omega arith)
name_of (f ∷ files) zero d within = refl
name_of (f ∷ files) (suc i) d within = let below : i < length files = omega arith in name_of files i d below
