-- Variables of which none has a value.
use Rattle.meson_variables.proofs.Words.{◌≡◌, ℕ, Bool, List, [], ◌∷◌, Bor, true, false, refl, subst, ◌&&◌, ◌||◌, not, bytes_eq, if◌then◌else◌, is_some, Option}
use Rattle.meson_variables.proofs.Words.{None, Some, bytes_eq-Decides, is_among, value_in, has_any}
use Rattle.meson_variables.specs.declared.values.Values.{Values}

is_none : {V : Type 0} (o : Option V) → is_some o ≡ false → o ≡ None
is_none None is = refl
is_none (Some v) is = absurd cc

neither : (a b : Bool) → (a || b) ≡ false → (a ≡ false) × (b ≡ false)
neither true b is = absurd cc
neither false b is = (refl, is)

pub none_has : (v : Values) (names : List (Bor (List ℕ))) (x : List ℕ) → has_any v names ≡ false → is_among names x ≡ true → value_in v x ≡ None
none_has v [] x none among = absurd cc
none_has v (y ∷ ys) x none among =
    let parts = neither (is_some (value_in v y.now)) (has_any v ys) none in
    go (bytes_eq y.now x) (bytes_eq-Decides y.now x).0 among (is_none (value_in v y.now) parts.0) (none_has v ys x parts.1)
  where
    go : (b : Bool) → (b ≡ true → y.now ≡ x) → (b || is_among ys x) ≡ true → value_in v y.now ≡ None → (is_among ys x ≡ true → value_in v x ≡ None) → value_in v x ≡ None
    go true same either here others = subst (λ z. value_in v z ≡ None) (same refl) here
    go false same either here others = others either

-- then it matters not whether it is known what sets variables
pub known_or_not : {V : Type 0} (known set : Bool) (v : Option V) → (if set then None else v) ≡ None → (if known && not set then v else None) ≡ None
known_or_not true true v none = refl
known_or_not false true v none = refl
known_or_not true false v none = none
known_or_not false false v none = refl
