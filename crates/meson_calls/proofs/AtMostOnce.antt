-- A keyword argument that is there once at most, and one that is there twice.
use Rattle.meson_calls.proofs.Words.{Ok, Err, ◌≡◌, ℕ, ◌<◌, ◌≤◌, List, [], ◌∷◌, length, refl, arith, once}
use Rattle.meson_calls.specs.declared.refusal.Refusal.TheVariants.{DuplicateKeyword}

pub once_few : {X Y : Type 0} (key : List ℕ) (xs : List X) (y : Y) → length xs ≤ 1 → once key xs y ≡ Ok y
once_few key [] y few = refl
once_few key (x ∷ []) y few = refl
once_few key (x ∷ z ∷ more) y few = absurd (omega arith)

pub once_twice : {X Y : Type 0} (key : List ℕ) (xs : List X) (y : Y) → 1 < length xs → once key xs y ≡ Err (DuplicateKeyword key)
once_twice key [] y many = absurd (omega arith)
once_twice key (x ∷ []) y many = absurd (omega arith)
once_twice key (x ∷ z ∷ more) y many = refl
