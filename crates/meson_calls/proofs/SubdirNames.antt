-- The file that a `subdir` means, among files with names of build files.
use Rattle.meson_calls.proofs.Words.{option_and_then, ◌≡◌, ℕ, zero, suc, ◌<◌, List, [], ◌∷◌, length, get_or, refl, ap, ◌∙◌, arith, Option, Some, None, File}
use Rattle.meson_calls.proofs.Words.{nth, meant_in, file_in}

nth_there : (files : List File) (i : ℕ) (d : File) → i < length files → nth files i ≡ Some (get_or files i d)
nth_there [] i d within = absurd (omega arith)
nth_there (f ∷ files) zero d within = refl
nth_there (f ∷ files) (suc i) d within = let below : i < length files = omega arith in nth_there files i d below

pub meant_at : (files : List File) (i : ℕ) (d : File) → i < length files → (o : Option (List ℕ)) (folder : List ℕ) → o ≡ Some folder → meant_in files i o ≡ file_in (get_or files i d).name folder
meant_at files i d within o folder is = ap (meant_in files i) is ∙ ap (λ f. option_and_then (λ g. file_in g.name folder) f) (nth_there files i d within)

pub no_folder : (files : List File) (i : ℕ) → meant_in files i None ≡ None
no_folder files i = go (nth files i)
  where
    go : (o : Option File) → option_and_then (λ f. option_and_then (file_in f.name) None) o ≡ None
    go None = refl
    go (Some f) = refl
