-- Reading and writing one file of a list, and what a splice does at it.
use Rattle.std.proofs.Common.{◌≡◌, ◌≢◌, ℕ, zero, suc, ◌+◌, ◌<◌, Bool, true, false, not, cond, List, [], ◌∷◌, ◌++◌, length, get_or, Some, None, Result, Ok, Err, refl, ap, ap₂, ◌∙◌, arith}
use Rattle.std.specs.Prelude.{slice_set, bytes_eq, nat_lt}
use Rattle.std.specs.List.{position_or_len}
use Rattle.std.proofs.lemmas.Bool.Decides.{nat_tests}
use Rattle.std.proofs.lemmas.List.Quantifiers.{all_pairs_push, position-Some}
use Rattle.std.proofs.lemmas.Slice.Eq.{bytes_eq-Decides}
use Rattle.meson_splice.specs.Files.{IsDistinct, bytes_at, position_of_file, with_bytes}
use Rattle.meson_splice.specs.Patch.{patched, patched_in, then_ok}
use Rattle.meson_splice.specs.declared.fault.SpliceFault.TheVariants.{NoFile}
use Rattle.meson_splice.specs.declared.file_set.File.{File}
use Rattle.meson_splice.specs.declared.splice.Splice.{Splice}

pub bytes_at-get_or : (files : List File) (i : ℕ) (d : File) → i < length files → (get_or files i d).bytes ≡ bytes_at i files
bytes_at-get_or [] i d within = absurd (omega arith)
bytes_at-get_or (f ∷ files) zero d within = refl
bytes_at-get_or (f ∷ files) (suc i) d within = bytes_at-get_or files i d (omega arith)

pub slice_set-bytes : (files : List File) (i : ℕ) (bytes : List ℕ) (d : File) → i < length files → slice_set files i (record (get_or files i d) { bytes = bytes }) ≡ with_bytes i bytes files
slice_set-bytes [] i bytes d within = absurd (omega arith)
slice_set-bytes (f ∷ files) zero bytes d within = refl
slice_set-bytes (f ∷ files) (suc i) bytes d within = ap (λ more. f ∷ more) (slice_set-bytes files i bytes d (omega arith))

-- ---- files of which one has other bytes

place-same : (name : List ℕ) (files : List File) (i : ℕ) (b : List ℕ) → position_or_len (λ (f : File). bytes_eq f.name name) (with_bytes i b files) ≡ position_or_len (λ (f : File). bytes_eq f.name name) files
place-same name [] i b = refl
place-same name (f ∷ files) zero b = refl
place-same name (f ∷ files) (suc i) b = ap (λ n. cond (not (bytes_eq f.name name)) (1 + n) 0) (place-same name files i b)

pub len-same : (files : List File) (i : ℕ) (b : List ℕ) → length (with_bytes i b files) ≡ length files
len-same [] i b = refl
len-same (f ∷ files) zero b = refl
len-same (f ∷ files) (suc i) b = ap suc (len-same files i b)

-- the file stands where it stood
pub found-same : (name : List ℕ) (files : List File) (i : ℕ) (b : List ℕ) → position_of_file name (with_bytes i b files) ≡ position_of_file name files
found-same name files i b = ap₂ (λ n m. cond (nat_lt n m) (Some n) None) (place-same name files i b) (len-same files i b)

-- the first file is not of that name, and none behind it is
pub not_here : (b : Bool) (n m : ℕ) → cond (nat_lt (cond (not b) (1 + n) 0) (suc m)) (Some (cond (not b) (1 + n) 0)) None ≡ None → (b ≡ false) × (cond (nat_lt n m) (Some n) None ≡ None)
not_here true n m h = absurd (let no : ⊥ = grind (arith, nat_tests) in no)
not_here false n m h = (refl, grind (arith, nat_tests))

other_name : (name : List ℕ) (files : List File) (i : ℕ) (d : File) → position_of_file name files ≡ None → i < length files → (get_or files i d).name ≢ name
other_name name [] i d none within = absurd (omega arith)
other_name name (f ∷ files) zero d none within =
    let both = not_here (bytes_eq f.name name) _ _ none in
    λ same. let yes = (bytes_eq-Decides f.name name).1 same in cc
other_name name (f ∷ files) (suc i) d none within =
    let both = not_here (bytes_eq f.name name) _ _ none in
    other_name name files i d both.1 (omega arith)

pub distinct-push : (files : List File) (f : File) → IsDistinct files → position_of_file f.name files ≡ None → IsDistinct (files ++ f ∷ [])
distinct-push files f distinct none = all_pairs_push (λ a b. a.name ≢ b.name) files f distinct (λ k d within. other_name f.name files k d none within)

-- ---- a splice at the file that is found

then_ok-then_ok : {A B C E : Type 0} (r : Result A E) (f : A → Result B E) (g : B → Result C E) → then_ok (then_ok r f) g ≡ then_ok r (λ x. then_ok (f x) g)
then_ok-then_ok (Ok x) f g = refl
then_ok-then_ok (Err e) f g = refl

pub patched_in-at : (files : List File) (s : Splice) (i : ℕ) (d : File) → i < length files → bytes_eq (get_or files i d).name s.file ≡ true
    → ((k : ℕ) → k < i → bytes_eq (get_or files k d).name s.file ≡ false) → patched_in files s ≡ then_ok (patched (bytes_at i files) s) (λ b. Ok (with_bytes i b files))
patched_in-at [] s i d within here before = absurd (omega arith)
patched_in-at (f ∷ files) s zero d within here before = rw here
patched_in-at (f ∷ files) s (suc i) d within here before =
    let first : bytes_eq f.name s.file ≡ false = before 0 (omega arith) in
    let rest = patched_in-at files s i d (omega arith) here (λ k below. before (suc k) (omega arith)) in
    rw (first, rest, then_ok-then_ok (patched (bytes_at i files) s) (λ b. Ok (with_bytes i b files)) (λ more. Ok (f ∷ more)))

pub nobody : File
nobody = record { name = []; bytes = [] }

pub found-within : (name : List ℕ) (files : List File) (i : ℕ) → position_of_file name files ≡ Some i → i < length files
found-within name files i h = (position-Some (λ f. bytes_eq f.name name) files i nobody h).0

pub patched_in-found : (files : List File) (s : Splice) (i : ℕ) → position_of_file s.file files ≡ Some i → patched_in files s ≡ then_ok (patched (bytes_at i files) s) (λ b. Ok (with_bytes i b files))
patched_in-found files s i h =
    let at = position-Some (λ f. bytes_eq f.name s.file) files i nobody h in
    patched_in-at files s i nobody at.0 at.1 at.2

pub patched_in-done : (files : List File) (s : Splice) (i : ℕ) (b : List ℕ) → position_of_file s.file files ≡ Some i → patched (bytes_at i files) s ≡ Ok b → patched_in files s ≡ Ok (with_bytes i b files)
patched_in-done files s i b h done = patched_in-found files s i h ∙ ap (λ r. then_ok r (λ c. Ok (with_bytes i c files))) done

pub patched_in-none : (files : List File) (s : Splice) → position_of_file s.file files ≡ None → patched_in files s ≡ Err (NoFile s.file)
patched_in-none [] s none = refl
patched_in-none (f ∷ files) s none =
    let both = not_here (bytes_eq f.name s.file) _ _ none in
    rw (both.0, patched_in-none files s both.1)
