-- Results that went well, one after another.
use Rattle.meson_steps.proofs.Words.{◌≡◌, ℕ, List, [], ◌∷◌, refl, Result, Ok, Err, then_ok}
use Rattle.meson_calls.specs.NamedArguments.{once}

pub then_was : {X Y E : Type 0} (r : Result X E) (f : X → Result Y E) (y : Y) → then_ok r f ≡ Ok y → (x : X) × (r ≡ Ok x) × (f x ≡ Ok y)
then_was (Ok x) f y is = (x, refl, is)
then_was (Err e) f y is = absurd cc

pub once_was : {X Y : Type 0} (key : List ℕ) (xs : List X) (y z : Y) → once key xs y ≡ Ok z → y ≡ z
once_was key [] y z is = cc
once_was key (x ∷ []) y z is = cc
once_was key (x ∷ w ∷ more) y z is = absurd cc
