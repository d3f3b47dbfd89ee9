-- The slice of a text where a part of it stands.
use Rattle.std.proofs.Common.{◌≡◌, ℕ, ◌+◌, ◌-◌, ◌≤◌, List, [], ◌∷◌, ◌++◌, get_or, length, take, drop, ap, sym, ◌∙◌, arith}
use Rattle.std.proofs.Math.Seq.{drop-append_seam, take-append_seam}
use Rattle.std.specs.Prelude.{slice_range}

pub slice_range-part : (source front part rest : List ℕ) (at end : ℕ) → source ≡ front ++ (part ++ rest) → length front ≡ at → end ≡ at + length part → slice_range source at end ≡ part
slice_range-part source front part rest at end joins here there =
    let size : end - at ≡ length part = omega arith in
    ap (λ n. take n (drop at source)) size
    ∙ ap (λ s. take (length part) (drop at s)) joins
    ∙ ap (λ n. take (length part) (drop n (front ++ (part ++ rest)))) (sym here)
    ∙ ap (take (length part)) (drop-append_seam front (part ++ rest))
    ∙ take-append_seam part rest

-- the first three elements, as they were read
pub take-three : (s : List ℕ) (x y z : ℕ) → 3 ≤ length s → get_or s 0 0 ≡ x → get_or s 1 0 ≡ y → get_or s 2 0 ≡ z → take 3 s ≡ x ∷ y ∷ z ∷ []
take-three [] x y z few a b c = absurd (omega arith)
take-three (p ∷ []) x y z few a b c = absurd (omega arith)
take-three (p ∷ q ∷ []) x y z few a b c = absurd (omega arith)
take-three (p ∷ q ∷ r ∷ s) x y z few a b c = cc
