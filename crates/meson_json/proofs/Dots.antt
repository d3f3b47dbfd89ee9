-- The texts between the dots of a text: the one before the first dot, and those of what is after it.
use Rattle.std.proofs.Common.{◌≡◌, ℕ, suc, ◌+◌, ◌<◌, true, false, List, [], ◌∷◌, length, refl, ap, ap₂, ◌∙◌, arith}
use Rattle.std.specs.Prelude.{Bool, drop, take}
use Rattle.std.specs.List.{after_first, before_first, position_or_len}
use Rattle.meson_json.specs.Arguments.{begun_by, between_dots, is_dot}

one_more : (n : ℕ) → suc n ≡ 1 + n
one_more n = omega arith

two_more : (n : ℕ) → suc (n + 1) ≡ 1 + n + 1
two_more n = omega arith

pub dots_none : (bs : List ℕ) → position_or_len is_dot bs ≡ length bs → between_dots bs ≡ bs ∷ []
dots_none [] h = refl
dots_none (b ∷ bs) h = go (is_dot b) refl h (dots_none bs)
  where
    go : (t : Bool) → is_dot b ≡ t → position_or_len is_dot (b ∷ bs) ≡ suc (length bs) → (position_or_len is_dot bs ≡ length bs → between_dots bs ≡ bs ∷ []) → between_dots (b ∷ bs) ≡ (b ∷ bs) ∷ []
    go true is e rest = absurd (let none = rw is at e in omega (arith, none))
    go false is e rest = rw is (ap (begun_by b) (rest (let more = rw is at e in omega (arith, more))))

pub dots_some : (bs : List ℕ) → position_or_len is_dot bs < length bs → between_dots bs ≡ before_first is_dot bs ∷ between_dots (after_first is_dot bs)
dots_some [] h = absurd (omega (arith, h))
dots_some (b ∷ bs) h = go (is_dot b) refl h (dots_some bs)
  where
    go : (t : Bool) → is_dot b ≡ t → position_or_len is_dot (b ∷ bs) < suc (length bs)
        → (position_or_len is_dot bs < length bs → between_dots bs ≡ before_first is_dot bs ∷ between_dots (after_first is_dot bs))
        → between_dots (b ∷ bs) ≡ before_first is_dot (b ∷ bs) ∷ between_dots (after_first is_dot (b ∷ bs))
    go true is e rest = rw is refl
    go false is e rest =
        let n = position_or_len is_dot bs in
        rw is
        (ap (begun_by b) (rest (let more = rw is at e in omega (arith, more)))
        ∙ ap₂ (λ i j. take i (b ∷ bs) ∷ between_dots (drop j (b ∷ bs))) (one_more n) (two_more n))
