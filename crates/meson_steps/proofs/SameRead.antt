-- What a list has at a place does not depend on what is read past its end.
use Rattle.meson_steps.proofs.Words.{◌≡◌, ℕ, zero, suc, ◌<◌, List, [], ◌∷◌, length, get_or, refl, arith}

pub same_read : {X : Type 0} (xs : List X) (i : ℕ) (d e : X) → i < length xs → get_or xs i d ≡ get_or xs i e
same_read [] i d e within = absurd (omega arith)
same_read (x ∷ xs) zero d e within = refl
same_read (x ∷ xs) (suc i) d e within = same_read xs i d e (omega arith)
