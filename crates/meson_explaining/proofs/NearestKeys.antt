-- The first key at the least distance.
use Rattle.std.proofs.Common.{◌≡◌, ℕ, zero, suc, ◌+◌, ◌-◌, ◌/◌, ◌<◌, ◌≤◌, List, length, Some, None, sym, ap, ◌∙◌, arith}
use Rattle.std.specs.Prelude.{if◌then◌else◌, find}
use Rattle.std.proofs.lemmas.Bool.{le-ltb}
use Rattle.meson_explaining.specs.Keys.{is_edits, nearest_below, nearest_key, or_then}

module _ (key : List ℕ) (ks : List (List ℕ)) (found : List ℕ) where
  -- what is found below n is found below what is greater
  kept : (n d m : ℕ) → m ≡ n + d → nearest_below key n ks ≡ Some found → nearest_below key m ks ≡ Some found
  kept n zero m e is = let same : m ≡ n = omega (arith, e) in ap (λ k. nearest_below key k ks) same ∙ is
  kept n (suc d) zero e is = absurd (let no : suc d ≡ 0 = omega (arith, e) in cc)
  kept n (suc d) (suc m) e is = let less : m ≡ n + d = omega (arith, e) in ap (λ o. or_then o (find (is_edits key m) ks)) (kept n d m less is)

  pub first_at : (n : ℕ) → length key ≤ 100 → n < length key / 3 + 1 → nearest_below key n ks ≡ None → find (is_edits key n) ks ≡ Some found → Some found ≡ nearest_key key ks
  first_at n short within none is =
      let most = length key / 3 + 1 in
      let more : most ≡ suc n + (most - suc n) = omega (arith, within) in
      let here = ap (λ o. or_then o (find (is_edits key n) ks)) none ∙ is in
      sym (ap (λ b. if b then None else nearest_below key most ks) (le-ltb 100 (length key) short) ∙ kept (suc n) (most - suc n) most more here)
