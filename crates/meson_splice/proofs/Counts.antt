-- How many files differ, one file after another.
use Rattle.std.proofs.Common.{◌≡◌, ◌<◌, ◌≤◌, ◌+◌, ℕ, zero, suc, Bool, true, false, not, cond, List, [], ◌∷◌, length, drop, refl, sym, ap, ◌∙◌, arith}
use Rattle.std.specs.Prelude.{bytes_eq}
use Rattle.std.proofs.lemmas.List.{at_drop_all}
use Rattle.std.proofs.lemmas.Slice.Eq.{bytes_eq-Decides}
use Rattle.meson_splice.specs.Files.{bytes_at, differing}
use Rattle.meson_splice.specs.declared.file_set.File.{File}

differing-more : (before after : List File) (i : ℕ) → i < length before → i < length after
    → differing (drop i before) (drop i after) ≡ cond (bytes_eq (bytes_at i before) (bytes_at i after)) (differing (drop (suc i) before) (drop (suc i) after)) (suc (differing (drop (suc i) before) (drop (suc i) after)))
differing-more [] after i h k = absurd (omega arith)
differing-more (f ∷ before) [] i h k = absurd (omega arith)
differing-more (f ∷ before) (g ∷ after) zero h k = refl
differing-more (f ∷ before) (g ∷ after) (suc i) h k = let b : i < length before = omega arith in let a : i < length after = omega arith in differing-more before after i b a

not-true : (d b : Bool) → d ≡ not b → d ≡ true → b ≡ false
not-true d false is t = refl
not-true d true is t = absurd (let bad : ⊥ = cc in bad)

not-false : (d b : Bool) → d ≡ not b → d ≡ false → b ≡ true
not-false d true is t = refl
not-false d false is t = absurd (let bad : ⊥ = cc in bad)

module _ (before after : List File) (i : ℕ) (was bytes : List ℕ) (differs : Bool) (h : i < length before) (k : i < length after) (is_was : was ≡ bytes_at i before)
    (is_bytes : bytes ≡ bytes_at i after) (is_differs : differs ≡ not (bytes_eq was bytes)) (count total : ℕ) (so_far : count + differing (drop i before) (drop i after) ≡ total) where
  abbrev rest : ℕ
  rest = differing (drop (suc i) before) (drop (suc i) after)

  test : differs ≡ not (bytes_eq (bytes_at i before) (bytes_at i after))
  test = is_differs ∙ ap (λ z. not (bytes_eq z bytes)) is_was ∙ ap (λ z. not (bytes_eq (bytes_at i before) z)) is_bytes

  step : (b : Bool) → bytes_eq (bytes_at i before) (bytes_at i after) ≡ b → differing (drop i before) (drop i after) ≡ cond b rest (suc rest)
  step b is = differing-more before after i h k ∙ ap (λ c. cond c rest (suc rest)) is

  next : (n : ℕ) → n + rest ≡ total → n + differing (drop (i + 1) before) (drop (i + 1) after) ≡ total
  next n e = let one : i + 1 ≡ suc i = omega arith in ap (λ j. n + differing (drop j before) (drop j after)) one ∙ e

  pub count_more : differs ≡ true → (count + 1) + differing (drop (i + 1) before) (drop (i + 1) after) ≡ total
  count_more t =
      let here : differing (drop i before) (drop i after) ≡ suc rest = step false (not-true differs _ test t) in
      next (count + 1) (omega (arith, here, so_far))

  pub count_kept : differs ≡ false → count + differing (drop (i + 1) before) (drop (i + 1) after) ≡ total
  count_kept f =
      let here : differing (drop i before) (drop i after) ≡ rest = step true (not-false differs _ test f) in
      next count (ap (λ n. count + n) (sym here) ∙ so_far)

-- of files that stay as they are none differs
pub differing-same : (files : List File) → differing files files ≡ 0
differing-same [] = refl
differing-same (f ∷ files) = rw ((bytes_eq-Decides f.bytes f.bytes).1 refl) (differing-same files)

-- no file is left
pub count_ended : (before after : List File) (i count total : ℕ) → length before ≤ i → length after ≤ i → count + differing (drop i before) (drop i after) ≡ total → count ≡ total
count_ended before after i count total h k so_far =
    let none : differing (drop i before) (drop i after) ≡ 0 = ap (λ fs. differing fs (drop i after)) (at_drop_all (λ fs. fs) before i h) in
    omega (arith, none, so_far)
