-- Putting saved bytes back undoes what was written since.
use Rattle.std.proofs.Common.{◌≡◌, ◌≢◌, ℕ, zero, suc, ◌≤◌, ◌⊎◌, inl, inr, Bool, true, false, List, [], ◌∷◌, ◌++◌, length, refl, sym, ap, ◌∙◌, arith}
use Rattle.std.proofs.Math.Dec.{eqb}
use Rattle.std.proofs.lemmas.Bool.{eqb-true}
use Rattle.std.specs.Prelude.{◌||◌}
use Rattle.meson_splice.specs.Files.{bytes_at, with_bytes}
use Rattle.meson_splice.specs.Saved.{bytes_saved, bytes_put_back}
use Rattle.meson_splice.specs.declared.change.SavedBytes.{SavedBytes}
use Rattle.meson_splice.specs.declared.file_set.File.{File}

pub with_bytes-beyond : (files : List File) (i : ℕ) (b : List ℕ) → length files ≤ i → with_bytes i b files ≡ files
with_bytes-beyond [] i b beyond = refl
with_bytes-beyond (f ∷ files) zero b beyond = absurd (omega arith)
with_bytes-beyond (f ∷ files) (suc i) b beyond = ap (λ more. f ∷ more) (with_bytes-beyond files i b (omega arith))

-- the last bytes written stay
pub with_bytes-twice : (files : List File) (i : ℕ) (b c : List ℕ) → with_bytes i c (with_bytes i b files) ≡ with_bytes i c files
with_bytes-twice [] i b c = refl
with_bytes-twice (f ∷ files) zero b c = refl
with_bytes-twice (f ∷ files) (suc i) b c = ap (λ more. f ∷ more) (with_bytes-twice files i b c)

-- writing what is there changes nothing
with_bytes-same : (files : List File) (i : ℕ) → with_bytes i (bytes_at i files) files ≡ files
with_bytes-same [] i = refl
with_bytes-same (f ∷ files) zero = refl
with_bytes-same (f ∷ files) (suc i) = ap (λ more. f ∷ more) (with_bytes-same files i)

-- bytes of two files are written in either order
with_bytes-apart : (files : List File) (i j : ℕ) (b c : List ℕ) → i ≢ j → with_bytes i b (with_bytes j c files) ≡ with_bytes j c (with_bytes i b files)
with_bytes-apart [] i j b c apart = refl
with_bytes-apart (f ∷ files) zero zero b c apart = absurd (apart refl)
with_bytes-apart (f ∷ files) zero (suc j) b c apart = refl
with_bytes-apart (f ∷ files) (suc i) zero b c apart = refl
with_bytes-apart (f ∷ files) (suc i) (suc j) b c apart = ap (λ more. f ∷ more) (with_bytes-apart files i j b c (λ same. apart (ap suc same)))

pub put_back-push : (saved : List SavedBytes) (s : SavedBytes) (files : List File) → bytes_put_back (saved ++ s ∷ []) files ≡ bytes_put_back saved (with_bytes s.place s.bytes files)
put_back-push [] s files = refl
put_back-push (t ∷ saved) s files = ap (with_bytes t.place t.bytes) (put_back-push saved s files)

-- a file's bytes are saved before it is written first
pub put_back-first : (saved : List SavedBytes) (files : List File) (i : ℕ) (b : List ℕ) → bytes_put_back (saved ++ record { place = i; bytes = bytes_at i files } ∷ []) (with_bytes i b files) ≡ bytes_put_back saved files
put_back-first saved files i b =
    put_back-push saved (record { place = i; bytes = bytes_at i files }) (with_bytes i b files)
    ∙ ap (bytes_put_back saved) (with_bytes-twice files i b (bytes_at i files) ∙ with_bytes-same files i)

equal-or-apart : (i j : ℕ) → (i ≡ j) ⊎ (i ≢ j)
equal-or-apart zero zero = inl refl
equal-or-apart zero (suc j) = inr (λ e. omega arith)
equal-or-apart (suc i) zero = inr (λ e. omega arith)
equal-or-apart (suc i) (suc j) = elim (equal-or-apart i j) [ inl e ↦ inl (ap suc e) | inr d ↦ inr (λ e. d (omega arith)) ]

-- What is written is lost where the file is saved, and else it stays.
abbrev Lost : List SavedBytes → List File → ℕ → List ℕ → Type 0
Lost saved files i b = bytes_put_back saved (with_bytes i b files) ≡ bytes_put_back saved files

abbrev Stays : List SavedBytes → List File → ℕ → List ℕ → Type 0
Stays saved files i b = bytes_put_back saved (with_bytes i b files) ≡ with_bytes i b (bytes_put_back saved files)

lost-or-stays : (saved : List SavedBytes) (files : List File) (i : ℕ) (b : List ℕ) → Lost saved files i b ⊎ Stays saved files i b
lost-or-stays [] files i b = inr refl
lost-or-stays (s ∷ saved) files i b = elim (lost-or-stays saved files i b) [
  | inl lost ↦ inl (ap (with_bytes s.place s.bytes) lost)
  | inr stays ↦ (elim (equal-or-apart s.place i) [
    | inl same ↦ inl (ap (with_bytes s.place s.bytes) (stays ∙ ap (λ j. with_bytes j b (bytes_put_back saved files)) (sym same)) ∙ with_bytes-twice (bytes_put_back saved files) s.place b s.bytes)
    | inr apart ↦ inr (ap (with_bytes s.place s.bytes) stays ∙ with_bytes-apart (bytes_put_back saved files) s.place i s.bytes b apart)
  ])
]

-- a file that is saved may be written again
again_by : (t : Bool) (s : SavedBytes) (saved : List SavedBytes) (files : List File) (i : ℕ) (b : List ℕ) → eqb s.place i ≡ t → (t || bytes_saved i saved) ≡ true
    → (bytes_saved i saved ≡ true → Lost saved files i b) → Lost (s ∷ saved) files i b
again_by false s saved files i b first there later = ap (with_bytes s.place s.bytes) (later there)
again_by true s saved files i b first there later = elim (lost-or-stays saved files i b) [
  | inl lost ↦ ap (with_bytes s.place s.bytes) lost
  | inr stays ↦ ap (with_bytes s.place s.bytes) (stays ∙ ap (λ j. with_bytes j b (bytes_put_back saved files)) (sym (eqb-true s.place i first))) ∙ with_bytes-twice (bytes_put_back saved files) s.place b s.bytes
]

pub put_back-again : (saved : List SavedBytes) (files : List File) (i : ℕ) (b : List ℕ) → bytes_saved i saved ≡ true → bytes_put_back saved (with_bytes i b files) ≡ bytes_put_back saved files
put_back-again [] files i b there = absurd (let no : ⊥ = cc in no)
put_back-again (s ∷ saved) files i b there = again_by (eqb s.place i) s saved files i b refl there (λ h. put_back-again saved files i b h)
