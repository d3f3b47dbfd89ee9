-- Steps keep the names of files.
use Rattle.std.specs.Prelude.{Bool, true, false, Ok, bytes_eq, if◌then◌else◌}
use Rattle.std.proofs.Common.{◌≡◌, ℕ, List, [], ◌∷◌, map, refl, sym, ap, ◌∙◌}
use Rattle.meson_splice.specs.declared.file_set.File.{File}
use Rattle.meson_splice.specs.declared.splice.Splice.{Splice}
use Rattle.meson_splice.specs.Patch.{patched, patched_all, patched_in, then_ok}
use Rattle.meson_steps.specs.Steps.{Step, StepsMake, none, step}
use Rattle.meson_steps.proofs.WentWell.{then_was}

abbrev names_of : List File → List (List ℕ)
names_of files = map (λ (f : File). f.name) files

patched_names : (files : List File) (s : Splice) (more : List File) → patched_in files s ≡ Ok more → names_of more ≡ names_of files
patched_names [] s more is = absurd cc
patched_names (f ∷ files) s more is = go (bytes_eq f.name s.file) is (patched_names files s)
  where
    go : (b : Bool) → (if b then then_ok (patched f.bytes s) (λ c. Ok (record f { bytes = c } ∷ files)) else then_ok (patched_in files s) (λ rest. Ok (f ∷ rest))) ≡ Ok more
        → ((rest : List File) → patched_in files s ≡ Ok rest → names_of rest ≡ names_of files) → names_of more ≡ names_of (f ∷ files)
    go true found others =
        let o = then_was (patched f.bytes s) (λ c. Ok (record f { bytes = c } ∷ files)) more found in
        let same : record f { bytes = o.0 } ∷ files ≡ more = let h = o.2 in cc in
        sym (ap names_of same)
    go false found others =
        let o = then_was (patched_in files s) (λ rest. Ok (f ∷ rest)) more found in
        let same : f ∷ o.0 ≡ more = let h = o.2 in cc in
        sym (ap names_of same) ∙ ap (λ l. f.name ∷ l) (others o.0 o.1)

all_names : (files : List File) (splices : List Splice) (more : List File) → patched_all files splices ≡ Ok more → names_of more ≡ names_of files
all_names files [] more is = let same : files ≡ more = cc in sym (ap names_of same)
all_names files (s ∷ splices) more is =
    let o = then_was (patched_in files s) (λ rest. patched_all rest splices) more is in
    all_names o.0 splices more o.2 ∙ patched_names files s o.0 o.1

pub names_kept : (files : List File) (steps : List Step) (splices : List Splice) (last : List File) (bytes : ℕ) → StepsMake files steps splices last bytes → names_of last ≡ names_of files
names_kept files steps splices last bytes (none of) = refl
names_kept files steps splices last bytes (step from between to s more here later count laid is made) = names_kept between more later to count made ∙ all_names from here between is
