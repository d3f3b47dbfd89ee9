-- What a splice does to a text and to a list of files.
use Rattle.std.specs.Prelude.{◌≡◌, ℕ, ◌+◌, List, [], ◌∷◌, ◌++◌, length, take, drop, map, reverse, bytes_eq, nat_le, if◌then◌else◌, Result, Ok, Err}
use Rattle.meson_splice.specs.declared.fault.SpliceFault.{SpliceFault}
use Rattle.meson_splice.specs.declared.fault.SpliceFault.TheVariants.{NoFile, OutOfRange, Stale}
use Rattle.meson_splice.specs.declared.file_set.File.{File}
use Rattle.meson_splice.specs.declared.splice.Splice.{Splice}

-- b is p, `was`, q, where p has the length `at`, and c is p, `now`, q
pub record Patches (b : List ℕ) (s : Splice) (c : List ℕ) : Type 0 where
  pub p : List ℕ
  pub q : List ℕ
  pub before : b ≡ p ++ s.was ++ q
  pub place : length p ≡ s.at
  pub after : c ≡ p ++ s.now ++ q

-- the bytes after the splice, or the first of: its range runs past the end, other bytes are there
abbrev pub patched : List ℕ → Splice → Result (List ℕ) SpliceFault
patched b s =
    if nat_le (s.at + length s.was) (length b)
    then (if bytes_eq (take (length s.was) (drop s.at b)) s.was then Ok (take s.at b ++ s.now ++ drop (s.at + length s.was) b) else Err (Stale s.file s.at))
    else Err (OutOfRange s.file s.at)

-- one step, and then another if it is done
abbrev pub then_ok : {A B E : Type 0} → Result A E → (A → Result B E) → Result B E
then_ok (Ok x) f = f x
then_ok (Err e) f = Err e

-- the same in the file of that name
abbrev pub patched_in : List File → Splice → Result (List File) SpliceFault
patched_in [] s = Err (NoFile s.file)
patched_in (f ∷ files) s =
    if bytes_eq f.name s.file
    then then_ok (patched f.bytes s) (λ b. Ok (record f { bytes = b } ∷ files))
    else then_ok (patched_in files s) (λ more. Ok (f ∷ more))

-- first to last
abbrev pub patched_all : List File → List Splice → Result (List File) SpliceFault
patched_all files [] = Ok files
patched_all files (s ∷ splices) = then_ok (patched_in files s) (λ more. patched_all more splices)

abbrev pub inverse_of : Splice → Splice
inverse_of s = record s { was = s.now; now = s.was }

-- the inverses, last to first
abbrev pub inverses_of : List Splice → List Splice
inverses_of splices = reverse (map inverse_of splices)
