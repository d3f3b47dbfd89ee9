-- Splices of one file in a set of files, without those that change nothing.
use Rattle.meson_steps.proofs.Words.{◌≡◌, ℕ, zero, suc, ◌+◌, ◌<◌, List, [], ◌∷◌, length, get_or, refl, sym, ap, ◌∙◌, subst, arith, cond, Bool, true, false, not}
use Rattle.meson_steps.proofs.Words.{bytes_eq, Result, Ok, Err, AllByRecursion, IsUtf8, bytes_eq-Decides, IsDistinct, bytes_at, with_bytes, patched, patched_in}
use Rattle.meson_steps.proofs.Words.{patched_all, then_ok, SpliceFault, File, Splice, joined, patched_by, AreTexts, Piece, Keep, Change, splices, name_of_file}
use Rattle.meson_steps.proofs.Words.{effective}
use Rattle.meson_steps.proofs.Spliced.{patched_named, same_text}
use Rattle.meson_steps.proofs.OtherBytes.{bytes_there, as_many_files}

-- ---- as many files

file_put : (f : File) (files new : List File) (r : Result (List ℕ) SpliceFault) → then_ok r (λ b. Ok (record f { bytes = b } ∷ files)) ≡ Ok new → length new ≡ length (f ∷ files)
file_put f files new (Ok b) done = let same : record f { bytes = b } ∷ files ≡ new = cc in ap length (sym same)
file_put f files new (Err e) done = absurd cc

files_put : (f : File) (files new : List File) (r : Result (List File) SpliceFault) → ((more : List File) → r ≡ Ok more → length more ≡ length files) → then_ok r (λ more. Ok (f ∷ more)) ≡ Ok new → length new ≡ length (f ∷ files)
files_put f files new (Ok more) as_many done = let same : f ∷ more ≡ new = cc in ap length (sym same) ∙ ap suc (as_many more refl)
files_put f files new (Err e) as_many done = absurd cc

in_as_many : (files new : List File) (s : Splice) → patched_in files s ≡ Ok new → length new ≡ length files
in_as_many [] new s done = absurd cc
in_as_many (f ∷ files) new s done = go (bytes_eq f.name s.file) done (λ more is. in_as_many files more s is)
  where
    go : (b : Bool) → cond b (then_ok (patched f.bytes s) (λ b. Ok (record f { bytes = b } ∷ files))) (then_ok (patched_in files s) (λ more. Ok (f ∷ more))) ≡ Ok new
        → ((more : List File) → patched_in files s ≡ Ok more → length more ≡ length files) → length new ≡ length (f ∷ files)
    go true is as_many = file_put f files new (patched f.bytes s) is
    go false is as_many = files_put f files new (patched_in files s) as_many is

pub all_as_many : (files new : List File) (ss : List Splice) → patched_all files ss ≡ Ok new → length new ≡ length files
all_as_many files new [] done = let same : files ≡ new = cc in ap length (sym same)
all_as_many files new (s ∷ ss) done = go (patched_in files s) refl done (λ more is rest. all_as_many more new ss rest ∙ in_as_many files more s is)
  where
    go : (r : Result (List File) SpliceFault) → patched_in files s ≡ r → then_ok r (λ more. patched_all more ss) ≡ Ok new
        → ((more : List File) → patched_in files s ≡ Ok more → patched_all more ss ≡ Ok new → length new ≡ length files) → length new ≡ length files
    go (Ok more) is rest later = later more is rest
    go (Err e) is rest later = absurd cc

pub same_files : (x y : List File) (r : Result (List File) SpliceFault) → r ≡ Ok x → r ≡ Ok y → x ≡ y
same_files x y r one other = cc

-- ---- splices that change nothing

pub effective_patches : (bytes text : List ℕ) (ss : List Splice) → patched_by bytes ss ≡ Ok text → patched_by bytes (effective ss) ≡ Ok text
effective_patches bytes text [] done = done
effective_patches bytes text (s ∷ ss) done = go (patched bytes s) refl done (λ next rest. effective_patches next text ss rest)
  where
    kept : (b : Bool) → (b ≡ true → s.was ≡ s.now) → (next : List ℕ) → patched bytes s ≡ Ok next → patched_by next (effective ss) ≡ Ok text → patched_by bytes (cond (not b) (s ∷ effective ss) (effective ss)) ≡ Ok text
    kept true same next is rest = subst (λ b. patched_by b (effective ss) ≡ Ok text) (same_text bytes s next is (same refl)) rest
    kept false same next is rest = ap (λ r. then_ok r (λ b. patched_by b (effective ss))) is ∙ rest

    go : (r : Result (List ℕ) SpliceFault) → patched bytes s ≡ r → then_ok r (λ next. patched_by next ss) ≡ Ok text → ((next : List ℕ) → patched_by next ss ≡ Ok text → patched_by next (effective ss) ≡ Ok text)
        → patched_by bytes (effective (s ∷ ss)) ≡ Ok text
    go (Ok next) is rest later = kept (bytes_eq s.was s.now) (bytes_eq-Decides s.was s.now).0 next is (later next rest)
    go (Err e) is rest later = absurd cc

-- ---- the splices of one file

abbrev pub OfFile : List ℕ → List Splice → Type 0
OfFile name ss = AllByRecursion (λ (s : Splice). s.file ≡ name) ss

pub of_file : (name : List ℕ) (at : ℕ) (ps : List Piece) → OfFile name (splices name at ps)
of_file name at [] = tt
of_file name at (Keep xs ∷ ps) = of_file name (at + length (joined xs)) ps
of_file name at (Change was now ∷ ps) = (refl, of_file name (at + length (joined now)) ps)

pub effective_of_file : (name : List ℕ) (ss : List Splice) → OfFile name ss → OfFile name (effective ss)
effective_of_file name [] all = tt
effective_of_file name (s ∷ ss) all = go (bytes_eq s.was s.now) (effective_of_file name ss all.1)
  where
    go : (b : Bool) → OfFile name (effective ss) → OfFile name (cond (not b) (s ∷ effective ss) (effective ss))
    go true rest = rest
    go false rest = (all.0, rest)

put_twice : (files : List File) (i : ℕ) (b c : List ℕ) → with_bytes i c (with_bytes i b files) ≡ with_bytes i c files
put_twice [] i b c = refl
put_twice (f ∷ files) zero b c = refl
put_twice (f ∷ files) (suc i) b c = ap (λ more. f ∷ more) (put_twice files i b c)

put_same : (files : List File) (i : ℕ) → with_bytes i (bytes_at i files) files ≡ files
put_same [] i = refl
put_same (f ∷ files) zero = refl
put_same (f ∷ files) (suc i) = ap (λ more. f ∷ more) (put_same files i)

-- ---- the files with another text

name_kept : (files : List File) (i j : ℕ) (b : List ℕ) (d : File) → j < length files → (get_or (with_bytes i b files) j d).name ≡ (get_or files j d).name
name_kept [] i j b d within = refl
name_kept (f ∷ files) zero zero b d within = refl
name_kept (f ∷ files) zero (suc j) b d within = refl
name_kept (f ∷ files) (suc i) zero b d within = refl
name_kept (f ∷ files) (suc i) (suc j) b d within = let below : j < length files = omega (arith, within) in name_kept files i j b d below

pub distinct_with : (files : List File) (i : ℕ) (b : List ℕ) → IsDistinct files → IsDistinct (with_bytes i b files)
distinct_with files i b distinct = λ j k d before within.
    let inside : k < length files = omega (arith, within, as_many_files files i b) in
    let first : j < length files = omega (arith, before, inside) in
    λ same. distinct j k d before inside (sym (name_kept files i j b d first) ∙ same ∙ name_kept files i k b d inside)

name_put : (files : List File) (i : ℕ) (b : List ℕ) → name_of_file i (with_bytes i b files) ≡ name_of_file i files
name_put [] i b = refl
name_put (f ∷ files) zero b = refl
name_put (f ∷ files) (suc i) b = name_put files i b

pub all_patched : (files : List File) (i : ℕ) (text : List ℕ) (ss : List Splice) → IsDistinct files → i < length files → OfFile (name_of_file i files) ss → patched_by (bytes_at i files) ss ≡ Ok text
    → patched_all files ss ≡ Ok (with_bytes i text files)
all_patched files i text [] distinct within all done =
    let same : bytes_at i files ≡ text = cc in ap Ok (sym (put_same files i) ∙ ap (λ b. with_bytes i b files) same)
all_patched files i text (s ∷ ss) distinct within all done = go (patched (bytes_at i files) s) refl done (λ next distinct within all rest. all_patched (with_bytes i next files) i text ss distinct within all rest)
  where
    go : (r : Result (List ℕ) SpliceFault) → patched (bytes_at i files) s ≡ r → then_ok r (λ next. patched_by next ss) ≡ Ok text
        → ((next : List ℕ) → IsDistinct (with_bytes i next files) → i < length (with_bytes i next files) → OfFile (name_of_file i (with_bytes i next files)) ss → patched_by (bytes_at i (with_bytes i next files)) ss ≡ Ok text
        → patched_all (with_bytes i next files) ss ≡ Ok (with_bytes i text (with_bytes i next files)))
        → patched_all files (s ∷ ss) ≡ Ok (with_bytes i text files)
    go (Ok next) is rest later =
        let one = patched_named files i s next distinct within all.0 is in
        let there : i < length (with_bytes i next files) = omega (arith, within, as_many_files files i next) in
        let more = later next (distinct_with files i next distinct) there (subst (λ n. OfFile n ss) (sym (name_put files i next)) all.1) (ap (λ b. patched_by b ss) (bytes_there files i next within) ∙ rest) in
        ap (λ r. then_ok r (λ fs. patched_all fs ss)) one ∙ more ∙ ap Ok (put_twice files i next text)
    go (Err e) is rest later = absurd cc

-- what is left out loses no text
kept_texts : (b : Bool) (s : Splice) (rest : List Splice) → IsUtf8 s.was × IsUtf8 s.now → AreTexts rest → AreTexts (cond (not b) (s ∷ rest) rest)
kept_texts true s rest own others = others
kept_texts false s rest own others = (own, others)

pub effective_texts : (ss : List Splice) → AreTexts ss → AreTexts (effective ss)
effective_texts [] a = tt
effective_texts (s ∷ ss) a = kept_texts (bytes_eq s.was s.now) s (effective ss) a.0 (effective_texts ss a.1)
