-- The splices of an edit in a set of files: they change the one file alone.
use Rattle.std.proofs.Common.{◌≡◌, ℕ, zero, suc, ◌+◌, ◌<◌, List, [], ◌∷◌, length, Some, Result, Ok, Err, refl, sym, ap, ◌∙◌, arith}
use Rattle.std.specs.List.{AllByRecursion}
use Rattle.meson_lex.specs.Items.{joined}
use Rattle.meson_splice.specs.declared.fault.SpliceFault.{SpliceFault}
use Rattle.meson_splice.specs.declared.file_set.File.{File}
use Rattle.meson_splice.specs.declared.splice.Splice.{Splice}
use Rattle.meson_splice.specs.Files.{position_of_file, bytes_at, with_bytes}
use Rattle.meson_splice.specs.Patch.{patched, patched_all, then_ok}
use Rattle.meson_splice.proofs.Sets.{found-same, found-within, patched_in-done}
use Rattle.meson_layout.specs.Pieces.{Piece, Keep, Change, splices}
use Rattle.meson_layout.specs.Edited.{patched_by}
use Rattle.meson_layout.specs.Layout.{pieces}
use Rattle.meson_layout.specs.Laws.{FilesLaw}

twice : (files : List File) (i : ℕ) (b c : List ℕ) → with_bytes i c (with_bytes i b files) ≡ with_bytes i c files
twice [] i b c = refl
twice (f ∷ files) zero b c = refl
twice (f ∷ files) (suc i) b c = ap (λ more. f ∷ more) (twice files i b c)

same : (files : List File) (i : ℕ) → with_bytes i (bytes_at i files) files ≡ files
same [] i = refl
same (f ∷ files) zero = refl
same (f ∷ files) (suc i) = ap (λ more. f ∷ more) (same files i)

read-back : (files : List File) (i : ℕ) (b : List ℕ) → i < length files → bytes_at i (with_bytes i b files) ≡ b
read-back [] i b h = absurd (omega arith)
read-back (f ∷ files) zero b h = refl
read-back (f ∷ files) (suc i) b h = read-back files i b (omega arith)

module _ (file text : List ℕ) (i : ℕ) where
  -- what splices of that file do to any set in which the file stands there
  abbrev Follows : List Splice → Type 0
  Follows ss = (files : List File) (source : List ℕ) → position_of_file file files ≡ Some i → bytes_at i files ≡ source → patched_by source ss ≡ Ok text → patched_all files ss ≡ Ok (with_bytes i text files)

  one-first : (s : Splice) (ss : List Splice) → s.file ≡ file → Follows ss → (files : List File) (source : List ℕ) → position_of_file file files ≡ Some i → bytes_at i files ≡ source
      → (r : Result (List ℕ) SpliceFault) → patched source s ≡ r → then_ok r (λ next. patched_by next ss) ≡ Ok text → patched_all files (s ∷ ss) ≡ Ok (with_bytes i text files)
  one-first s ss named follows files source here is (Ok b) one more =
      let at : position_of_file s.file files ≡ Some i = ap (λ n. position_of_file n files) named ∙ here in
      let step = patched_in-done files s i b at (ap (λ c. patched c s) is ∙ one) in
      let later = follows (with_bytes i b files) b (found-same file files i b ∙ here) (read-back files i b (found-within file files i here)) more in
      ap (λ r. then_ok r (λ next. patched_all next ss)) step ∙ later ∙ ap Ok (twice files i b text)
  one-first s ss named follows files source here is (Err e) one more = absurd cc

  patched-files : (ss : List Splice) → AllByRecursion (λ (s : Splice). s.file ≡ file) ss → Follows ss
  patched-files [] all files source here is done =
      let text_is : bytes_at i files ≡ text = cc in
      ap Ok (sym (ap (λ b. with_bytes i b files) (sym text_is) ∙ same files i))
  patched-files (s ∷ ss) all files source here is done = one-first s ss all.0 (patched-files ss all.1) files source here is (patched source s) refl done

splices-of : (file : List ℕ) (at : ℕ) (ps : List Piece) → AllByRecursion (λ (s : Splice). s.file ≡ file) (splices file at ps)
splices-of file at [] = tt
splices-of file at (Keep xs ∷ ps) = splices-of file (at + length (joined xs)) ps
splices-of file at (Change was now ∷ ps) = (refl, splices-of file (at + length (joined now)) ps)

pub files-law : FilesLaw
files-law files i file source text items primitive here is done =
    patched-files file text i (splices file 0 (pieces primitive items)) (splices-of file 0 (pieces primitive items)) files source here is done
