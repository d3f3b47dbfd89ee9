-- Paths that are too short to go through what another path names.
use Rattle.meson_targets.proofs.Words.{◌≡◌, ℕ, ◌≤◌, List, [], ◌∷◌, ◌++◌, length, true, false, refl, ap, ◌∙◌, arith, Bool, ◌&&◌, nat_eq, goes_through}

and_false : (b : Bool) → b && false ≡ false
and_false true = refl
and_false false = refl

-- a path that is no longer goes not through it
pub too_short : (block : List ℕ) (n : ℕ) (path : List ℕ) → length path ≤ length block → goes_through (block ++ n ∷ []) path ≡ false
too_short [] n [] short = refl
too_short [] n (k ∷ path) short = absurd (omega (arith, short))
too_short (m ∷ block) n [] short = refl
too_short (m ∷ block) n (k ∷ path) short =
    let below : length path ≤ length block = omega (arith, short) in
    ap (λ b. nat_eq m k && b) (too_short block n path below) ∙ and_false (nat_eq m k)
