-- Where a text of a known length ends, and a line.
use Rattle.std.proofs.Common.{◌≡◌, ◌==◌, ◌||◌, ℕ, Bool, true, false, List, [], ◌∷◌, ◌++◌, length, refl, ap₂, subst, arith}
use Rattle.std.specs.List.{list_any}

pub as-long : (ws bs xs ys : List ℕ) → length ws ≡ length bs → ws ++ xs ≡ bs ++ ys → (ws ≡ bs) × (xs ≡ ys)
as-long [] [] xs ys n e = (refl, e)
as-long [] (b ∷ bs) xs ys n e = absurd (omega (arith, n))
as-long (w ∷ ws) [] xs ys n e = absurd (omega (arith, n))
as-long (w ∷ ws) (b ∷ bs) xs ys n e =
    let first : w ≡ b = cc in
    let others : ws ++ xs ≡ bs ++ ys = cc in
    let rest = as-long ws bs xs ys (omega (arith, n)) others in
    (ap₂ (λ x l. x ∷ l) first rest.0, rest.1)

no_feed : (bs : List ℕ) → list_any (λ b. b == 10) (10 ∷ bs) ≡ false → ⊥
no_feed bs none = cc

right : (a b : Bool) → (a || b) ≡ false → b ≡ false
right true b none = absurd (let no : ⊥ = cc in no)
right false b none = none

behind : (c : ℕ) (cs : List ℕ) → list_any (λ b. b == 10) (c ∷ cs) ≡ false → list_any (λ b. b == 10) cs ≡ false
behind c cs none = right (c == 10) (list_any (λ b. b == 10) cs) none

pub one-line : (ws bs xs ys : List ℕ) → list_any (λ b. b == 10) ws ≡ false → list_any (λ b. b == 10) bs ≡ false
    → ws ++ 10 ∷ xs ≡ bs ++ 10 ∷ ys → (ws ≡ bs) × (xs ≡ ys)
one-line [] [] xs ys in_ws in_bs e = (refl, cc)
one-line [] (b ∷ bs) xs ys in_ws in_bs e =
    let first : b ≡ 10 = cc in
    absurd (no_feed bs (subst (λ c. list_any (λ b. b == 10) (c ∷ bs) ≡ false) first in_bs))
one-line (w ∷ ws) [] xs ys in_ws in_bs e =
    let first : w ≡ 10 = cc in
    absurd (no_feed ws (subst (λ c. list_any (λ b. b == 10) (c ∷ ws) ≡ false) first in_ws))
one-line (w ∷ ws) (b ∷ bs) xs ys in_ws in_bs e =
    let first : w ≡ b = cc in
    let others : ws ++ 10 ∷ xs ≡ bs ++ 10 ∷ ys = cc in
    let rest = one-line ws bs xs ys (behind w ws in_ws) (behind b bs in_bs) others in
    (ap₂ (λ x l. x ∷ l) first rest.0, rest.1)
