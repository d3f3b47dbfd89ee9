-- Splices at one file, one after another on its bytes.
use Rattle.std.proofs.Common.{◌≡◌, ◌∙◌, ℕ, zero, suc, ◌<◌, Bool, true, false, not, List, [], ◌∷◌, length, get_or, Some, Result, Ok, Err, refl, ap, arith}
use Rattle.std.specs.Prelude.{bytes_eq}
use Rattle.std.proofs.lemmas.List.Quantifiers.{position-Some}
use Rattle.std.proofs.lemmas.Slice.Eq.{bytes_eq-Decides}
use Rattle.meson_splice.specs.Files.{bytes_at, position_of_file, with_bytes}
use Rattle.meson_splice.specs.inside.Gap.{LeadsTo, StopsBy}
use Rattle.meson_splice.specs.Patch.{patched, patched_all, patched_in, then_ok}
use Rattle.meson_splice.specs.declared.fault.SpliceFault.{SpliceFault}
use Rattle.meson_splice.specs.declared.file_set.File.{File}
use Rattle.meson_splice.specs.declared.splice.Splice.{Splice}
use Rattle.meson_splice.proofs.Saving.{with_bytes-twice}
use Rattle.meson_splice.proofs.Sets.{nobody, patched_in-at}

-- ---- the files with other bytes in one of them

pub length-with_bytes : (files : List File) (i : ℕ) (b : List ℕ) → length (with_bytes i b files) ≡ length files
length-with_bytes [] i b = refl
length-with_bytes (f ∷ files) zero b = refl
length-with_bytes (f ∷ files) (suc i) b = ap suc (length-with_bytes files i b)

name-with_bytes : (files : List File) (i k : ℕ) (b : List ℕ) (d : File) → (get_or (with_bytes i b files) k d).name ≡ (get_or files k d).name
name-with_bytes [] i k b d = refl
name-with_bytes (f ∷ files) zero zero b d = refl
name-with_bytes (f ∷ files) zero (suc k) b d = refl
name-with_bytes (f ∷ files) (suc i) zero b d = refl
name-with_bytes (f ∷ files) (suc i) (suc k) b d = name-with_bytes files i k b d

bytes-with_bytes : (files : List File) (i : ℕ) (b : List ℕ) → i < length files → bytes_at i (with_bytes i b files) ≡ b
bytes-with_bytes [] i b within = absurd (omega arith)
bytes-with_bytes (f ∷ files) zero b within = refl
bytes-with_bytes (f ∷ files) (suc i) b within = bytes-with_bytes files i b (omega arith)

-- a splice at the file that is found, whatever its bytes are
patched_in-with_bytes : (files : List File) (s : Splice) (i : ℕ) (b : List ℕ) → position_of_file s.file files ≡ Some i
    → patched_in (with_bytes i b files) s ≡ then_ok (patched b s) (λ c. Ok (with_bytes i c files))
patched_in-with_bytes files s i b h =
    let at = position-Some (λ f. bytes_eq f.name s.file) files i nobody h in
    let here = ap (λ name. bytes_eq name s.file) (name-with_bytes files i i b nobody) ∙ at.1 in
    let before = λ (k : ℕ) (below : k < i). ap (λ name. bytes_eq name s.file) (name-with_bytes files i k b nobody) ∙ at.2 k below in
    patched_in-at (with_bytes i b files) s i nobody (rw length-with_bytes at.0) here before
    ∙ ap (λ c. then_ok (patched c s) (λ d. Ok (with_bytes i d (with_bytes i b files)))) (bytes-with_bytes files i b at.0)
    ∙ same_end (patched b s) where
      same_end : (r : Result (List ℕ) SpliceFault) → then_ok r (λ d. Ok (with_bytes i d (with_bytes i b files))) ≡ then_ok r (λ d. Ok (with_bytes i d files))
      same_end (Ok d) = ap Ok (with_bytes-twice files i b d)
      same_end (Err e) = refl

-- ---- one splice after another

pub leads-more : (file b c d : List ℕ) (splices left more : List Splice) (s : Splice) → LeadsTo file b splices c left → left ≡ s ∷ more → s.file ≡ file → patched c s ≡ Ok d
    → LeadsTo file b splices d more
leads-more file b c d splices left more s so_far first same done = record {
  alike = λ files i h.
      so_far.alike files i h
      ∙ ap (patched_all (with_bytes i c files)) first
      ∙ ap (λ r. then_ok r (λ fs. patched_all fs more)) (patched_in-with_bytes files s i c (ap (λ name. position_of_file name files) same ∙ h) ∙ ap (λ r. then_ok r (λ x. Ok (with_bytes i x files))) done);
}

pub leads-refused : (file b c : List ℕ) (splices left more : List Splice) (s : Splice) (e : SpliceFault) → LeadsTo file b splices c left → left ≡ s ∷ more → s.file ≡ file → patched c s ≡ Err e
    → StopsBy file b splices e
leads-refused file b c splices left more s e so_far first same refused = record {
  refused = λ files i h.
      so_far.alike files i h
      ∙ ap (patched_all (with_bytes i c files)) first
      ∙ ap (λ r. then_ok r (λ fs. patched_all fs more)) (patched_in-with_bytes files s i c (ap (λ name. position_of_file name files) same ∙ h) ∙ ap (λ r. then_ok r (λ x. Ok (with_bytes i x files))) refused);
}

-- ---- names

not_unequal : (t : Bool) → false ≡ not t → t ≡ true
not_unequal true h = refl
not_unequal false h = absurd (let no : ⊥ = cc in no)

pub same_name : (a b : List ℕ) → false ≡ not (bytes_eq a b) → a ≡ b
same_name a b h = (bytes_eq-Decides a b).0 (not_unequal (bytes_eq a b) h)
