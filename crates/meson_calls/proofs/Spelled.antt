-- Words that stand nowhere in bytes: a search tells it, and a text that stands there is another one.
use Rattle.meson_calls.proofs.Words.{slice_range, false, bytes_eq, is_some, ◌≡◌, ℕ, ◌-◌, ◌<◌, min, List, [], ◌∷◌, length, drop, get_or, length-take}
use Rattle.meson_calls.proofs.Words.{length-drop, get_or-take, Bool, true, Option, Some, None, true≢false, refl, sym, ap, ◌∙◌, arith, bytes_eq-Decides}
use Rattle.meson_calls.proofs.Words.{FindsNeedle, OccursAt, Span, text_at, HasNone}
use Rattle.std.proofs.Common.{get_or-drop}

-- ---- a word that stands somewhere is found

occurs : (bytes : List ℕ) (a b x : ℕ) (word : List ℕ) → slice_range bytes a b ≡ x ∷ word → OccursAt bytes (x ∷ word) a
occurs bytes a b x word is =
    let n = b - a in
    let rest = drop a bytes in
    let long : min n (length rest) ≡ length (x ∷ word) = sym (length-take n rest) ∙ ap length is in
    let left : length rest ≡ length bytes - a = length-drop a bytes in
    record {
      fits = omega (arith, long, left);
      reads = λ j within.
          let below : j < n = omega (arith, long, within) in
          sym (get_or-drop a bytes j 0) ∙ sym (get_or-take n rest j 0 below) ∙ ap (λ xs. get_or xs j 0) is;
    }

empty_occurs : (bytes : List ℕ) → OccursAt bytes [] 0
empty_occurs bytes = record { fits = omega arith; reads = λ j within. absurd (omega (arith, within)) }

pub nowhere : (bytes needle : List ℕ) → FindsNeedle bytes needle 0 None → HasNone needle bytes
nowhere bytes [] none s is = none 0 (omega arith) (omega arith) (empty_occurs bytes)
nowhere bytes (x ∷ word) none s is =
    let there = occurs bytes s.from s.to x word is in
    let fits = there.fits in
    none s.from (omega arith) (omega (arith, fits)) there

pub found_or_none : (bytes needle : List ℕ) (place : Option ℕ) (there : Bool) → FindsNeedle bytes needle 0 place → there ≡ is_some place → there ≡ false → HasNone needle bytes
found_or_none bytes needle None there finds is absent = nowhere bytes needle finds
found_or_none bytes needle (Some k) there finds is absent = absurd (true≢false (sym is ∙ absent))

-- ---- texts that stand in bytes

pub record IsPart (bytes text : List ℕ) : Type 0 where
  pub place : Span
  pub is : text ≡ text_at bytes place

pub absent : (word bytes text : List ℕ) → HasNone word bytes → IsPart bytes text → text ≡ word → ⊥
absent word bytes text none part is = none part.place (sym part.is ∙ is)

pub differs : (word bytes text : List ℕ) → HasNone word bytes → IsPart bytes text → bytes_eq text word ≡ false
differs word bytes text none part = by (bytes_eq text word) (bytes_eq-Decides text word).0
  where
    by : (b : Bool) → (b ≡ true → text ≡ word) → b ≡ false
    by false same = refl
    by true same = absurd (absent word bytes text none part (same refl))

pub differs_back : (word bytes text : List ℕ) → HasNone word bytes → IsPart bytes text → bytes_eq word text ≡ false
differs_back word bytes text none part = by (bytes_eq word text) (bytes_eq-Decides word text).0
  where
    by : (b : Bool) → (b ≡ true → word ≡ text) → b ≡ false
    by false same = refl
    by true same = absurd (absent word bytes text none part (sym (same refl)))
