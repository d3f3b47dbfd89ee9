-- One splice of a file of a set, where names are distinct; and a splice that changes nothing.
use Rattle.meson_steps.proofs.Words.{◌≡◌, ◌≢◌, ℕ, zero, suc, ◌<◌, List, [], ◌∷◌, ◌++◌, length, refl, sym, ap, ◌∙◌, arith, slice_index_or, true, false, bytes_eq}
use Rattle.meson_steps.proofs.Words.{Ok, false_from_ne_true, bytes_eq-Decides, IsDistinct, bytes_at, with_bytes, patched, patched_in, then_ok, File, Splice}
use Rattle.meson_steps.proofs.Words.{name_of_file}
use Rattle.meson_splice.proofs.Inverses.{patched-means-patches}

-- ---- a splice of the i-th file

tail_distinct : (f : File) (files : List File) → IsDistinct (f ∷ files) → IsDistinct files
tail_distinct f files all = λ i j d before within. let next : suc i < suc j = omega (arith, before) in let inside : suc j < length (f ∷ files) = omega (arith, within) in all (suc i) (suc j) d next inside

name_there : (files : List File) (i : ℕ) (d : File) → i < length files → name_of_file i files ≡ (slice_index_or files i d).name
name_there [] i d within = absurd (omega (arith, within))
name_there (f ∷ files) zero d within = refl
name_there (f ∷ files) (suc i) d within = let below : i < length files = omega (arith, within) in name_there files i d below

other_name : (f : File) (files : List File) (i : ℕ) → IsDistinct (f ∷ files) → i < length files → f.name ≢ name_of_file i files
other_name f files i all within =
    let first : 0 < suc i = omega arith in
    let inside : suc i < length (f ∷ files) = omega (arith, within) in
    λ same. all 0 (suc i) f first inside (same ∙ name_there files i f within)

pub patched_named : (files : List File) (i : ℕ) (s : Splice) (text : List ℕ) → IsDistinct files → i < length files → s.file ≡ name_of_file i files → patched (bytes_at i files) s ≡ Ok text
    → patched_in files s ≡ Ok (with_bytes i text files)
patched_named [] i s text all within name done = absurd (omega (arith, within))
patched_named (f ∷ files) zero s text all within name done =
    let here : bytes_eq f.name s.file ≡ true = (bytes_eq-Decides f.name s.file).1 (sym name) in
    rw here (ap (λ r. then_ok r (λ b. Ok (record f { bytes = b } ∷ files))) done)
patched_named (f ∷ files) (suc i) s text all within name done =
    let below : i < length files = omega (arith, within) in
    let other : bytes_eq f.name s.file ≡ false = false_from_ne_true _ (λ same. other_name f files i all below ((bytes_eq-Decides f.name s.file).0 same ∙ name)) in
    rw other (ap (λ r. then_ok r (λ more. Ok (f ∷ more))) (patched_named files i s text (tail_distinct f files all) below name done))

-- ---- one splice

pub same_text : (bytes : List ℕ) (s : Splice) (text : List ℕ) → patched bytes s ≡ Ok text → s.was ≡ s.now → text ≡ bytes
same_text bytes s text done same =
    let p = (patched-means-patches bytes s text).0 done in
    p.after ∙ ap (λ (m : List ℕ). p.p ++ m ++ p.q) (sym same) ∙ sym p.before
