-- An element of a list, and whether it passes a test.
use Rattle.std.proofs.Common.{◌≡◌, zero, suc, ◌<◌, List, [], ◌∷◌, length, refl, ap, ◌∙◌, inl, inr, arith}
use Rattle.std.specs.Prelude.{Bool, true, false, ◌||◌, ◌⊎◌, Contains}
use Rattle.std.specs.List.{list_any}

pub none_in : {X : Type 0} (x : X) → Contains [] x → ⊥
none_in x (i, within, is) = absurd (omega (arith, within))

pub which : {X : Type 0} (y : X) (ys : List X) (x : X) → Contains (y ∷ ys) x → (y ≡ x) ⊎ Contains ys x
which y ys x (zero, within, is) = inl is
which y ys x (suc i, within, is) = let below : i < length ys = omega (arith, within) in inr (i, below, is)

pub at_front : {X : Type 0} (y : X) (ys : List X) (x : X) → y ≡ x → Contains (y ∷ ys) x
at_front y ys x is = (zero, omega arith, is)

pub behind : {X : Type 0} (y : X) (ys : List X) (x : X) → Contains ys x → Contains (y ∷ ys) x
behind y ys x (i, within, is) = let next : suc i < length (y ∷ ys) = omega (arith, within) in (suc i, next, is)

pub some_test : {X : Type 0} (p : X → Bool) (xs : List X) (x : X) → Contains xs x → p x ≡ true → list_any p xs ≡ true
some_test p [] x c is = absurd (none_in x c)
some_test p (y ∷ ys) x c is = go (which y ys x c) (some_test p ys x)
  where
    later : (b : Bool) → list_any p ys ≡ true → (b || list_any p ys) ≡ true
    later true h = refl
    later false h = h

    go : (y ≡ x) ⊎ Contains ys x → (Contains ys x → p x ≡ true → list_any p ys ≡ true) → list_any p (y ∷ ys) ≡ true
    go (inl same) rest = ap (λ b. b || list_any p ys) (ap p same ∙ is)
    go (inr k) rest = later (p y) (rest k is)
