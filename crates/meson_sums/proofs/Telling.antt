-- What digests tell of files.
use Rattle.std.proofs.Common.{◌≡◌, ◌⊎◌, inl, inr, ℕ, ◌+◌, ◌*◌, Bool, true, false, List, [], ◌∷◌, ◌++◌, length, codes, All, bytes_eq, get_or, refl, sym, subst, ap, ap₂, add-one, ◌∙◌, arith, append_assoc}
use Rattle.std.proofs.lemmas.Slice.Eq.{bytes_eq-Decides}
use Rattle.hex.proofs.HexLemmas.{length-encode_with}
use Rattle.hex.specs.Hex.{lower_digits}
use Rattle.sha2.proofs.Facts256.{length-sha256}
use Rattle.sha2.specs.Sha256.{sha256}
use Rattle.meson_splice.specs.declared.file_set.File.{File}
use Rattle.meson_sums.specs.Laws.{Collision, IsOnALine, SumsTell}
use Rattle.meson_sums.specs.Sums.{digest, sum_line, sums}
use Rattle.meson_sums.proofs.Lines.{as-long, one-line}

length-digest : (text : List ℕ) → length (digest text) ≡ 64
length-digest text = length-encode_with lower_digits (sha256 text) ∙ ap (λ n. 2 * n) (length-sha256 text)

-- a line and what stands behind it
spread : (f : File) (more : List ℕ) → sum_line f ++ more ≡ digest f.bytes ++ (codes "  " ++ (f.name ++ 10 ∷ more))
spread f more =
    append_assoc (digest f.bytes) (codes "  " ++ (f.name ++ 10 ∷ [])) more
    ∙ ap (λ t. digest f.bytes ++ (codes "  " ++ t)) (append_assoc f.name (10 ∷ []) more)

-- of two lines with the same begin each part is the same
pub record AreAlike (f g : File) (more others : List ℕ) : Type 0 where
  pub same_digest : digest f.bytes ≡ digest g.bytes
  pub same_name : f.name ≡ g.name
  pub same_rest : more ≡ others

alike : (f g : File) (more others : List ℕ) → IsOnALine f → IsOnALine g → sum_line f ++ more ≡ sum_line g ++ others → AreAlike f g more others
alike f g more others on_f on_g same =
    let spreads = sym (spread f more) ∙ same ∙ spread g others in
    let digests = as-long (digest f.bytes) (digest g.bytes) _ _ (length-digest f.bytes ∙ sym (length-digest g.bytes)) spreads in
    let names : f.name ++ 10 ∷ more ≡ g.name ++ 10 ∷ others = cc in
    let parts = one-line f.name g.name more others on_f on_g names in
    record { same_digest = digests.0; same_name = parts.0; same_rest = parts.1 }

no-line : (f : File) (more : List ℕ) → sum_line f ++ more ≡ [] → ⊥
no-line f more none =
    let long = length-digest f.bytes in
    let spreads : digest f.bytes ++ (codes "  " ++ (f.name ++ 10 ∷ more)) ≡ [] = sym (spread f more) ∙ none in
    nothing (digest f.bytes) _ long spreads
  where
    nothing : (text behind : List ℕ) → length text ≡ 64 → text ++ behind ≡ [] → ⊥
    nothing [] behind long none = omega (arith, long)
    nothing (b ∷ text) behind long none = cc

same-bytes : (one other : List ℕ) → digest one ≡ digest other → (one ≡ other) ⊎ Collision
same-bytes one other same = decide (bytes_eq one other) refl
  where
    decide : (is : Bool) → bytes_eq one other ≡ is → (one ≡ other) ⊎ Collision
    decide true is = inl ((bytes_eq-Decides one other).0 is)
    decide false is = inr (record { one = one; other = other; differ = λ e. let there = (bytes_eq-Decides one other).1 e in cc; same_digest = same })

-- the first files, and those behind them
both : (f g : File) (files others : List File) → f.name ≡ g.name → (f.bytes ≡ g.bytes) ⊎ Collision → (files ≡ others) ⊎ Collision
    → (f ∷ files ≡ g ∷ others) ⊎ Collision
both f g files others names (inr collision) rest = inr collision
both f g files others names (inl bytes) (inr collision) = inr collision
both f g files others names (inl bytes) (inl rest) =
    let same : f ≡ g = ap₂ (λ a b. let h : File = record { name = a; bytes = b } in h) names bytes in
    inl (ap₂ (λ h hs. h ∷ hs) same rest)

behind : (f : File) (files : List File) → All IsOnALine (f ∷ files) → All IsOnALine files
behind f files all k d in_files =
    subst (λ n. IsOnALine (get_or (f ∷ files) n d)) (add-one k) (all (k + 1) d (omega (arith, in_files)))

pub sums-tell : SumsTell
sums-tell [] [] on_files on_others same = inl refl
sums-tell [] (g ∷ others) on_files on_others same = absurd (no-line g (sums others) (sym same))
sums-tell (f ∷ files) [] on_files on_others same = absurd (no-line f (sums files) same)
sums-tell (f ∷ files) (g ∷ others) on_files on_others same =
    let parts = alike f g (sums files) (sums others) (on_files 0 f (omega (arith))) (on_others 0 g (omega (arith))) same in
    both f g files others parts.same_name (same-bytes f.bytes g.bytes parts.same_digest)
    (sums-tell files others (behind f files on_files) (behind g others on_others) parts.same_rest)
