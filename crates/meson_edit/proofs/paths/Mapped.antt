-- The n-th of what a function gives of each.
use Rattle.meson_edit.proofs.Words.{◌≡◌, ℕ, zero, suc, List, [], ◌∷◌, map, refl, option_map, nth}

pub nth_map : {A B : Type 0} (f : A → B) (xs : List A) (n : ℕ) → nth (map f xs) n ≡ option_map f (nth xs n)
nth_map f [] n = refl
nth_map f (x ∷ xs) zero = refl
nth_map f (x ∷ xs) (suc n) = nth_map f xs n
