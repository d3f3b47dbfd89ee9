-- A text that is none of the words that are reserved.
use Rattle.meson_steps.proofs.Words.{◌≡◌, ◌≢◌, ℕ, true, false, List, [], ◌∷◌, refl, Bool, ◌||◌, bytes_eq, bytes_eq-Decides, IsNoneOf, spelling, Kind}

pub differs : (x y : List ℕ) → bytes_eq x y ≡ false → x ≢ y
differs x y other = λ same. let alike : bytes_eq x y ≡ true = (bytes_eq-Decides x y).1 same in cc

abbrev is_spelling : List Kind → List ℕ → Bool
is_spelling [] text = false
is_spelling (k ∷ ks) text = bytes_eq text (spelling k) || is_spelling ks text

neither : (a b : Bool) → a || b ≡ false → (a ≡ false) × (b ≡ false)
neither true b is = absurd cc
neither false b is = (refl, is)

pub none_of : (ks : List Kind) (text : List ℕ) → is_spelling ks text ≡ false → IsNoneOf ks text
none_of [] text other = tt
none_of (k ∷ ks) text other = let both = neither (bytes_eq text (spelling k)) (is_spelling ks text) other in (differs text (spelling k) both.0, none_of ks text both.1)
