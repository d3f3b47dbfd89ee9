-- Texts with a comma and a blank between them, one after another.
use Rattle.meson_steps.proofs.Words.{◌≡◌, ℕ, zero, suc, ◌+◌, ◌<◌, List, [], ◌∷◌, ◌++◌, codes, get_or, length, take, refl, sym, ap, ◌∙◌, arith, comma_between}
use Rattle.std.proofs.Common.{append_assoc}
use Rattle.meson_calls.proofs.Loads.{take_more}

between_last : (x : List ℕ) (xs : List (List ℕ)) (y : List ℕ) → comma_between (x ∷ (xs ++ y ∷ [])) ≡ comma_between (x ∷ xs) ++ (codes ", " ++ y)
between_last x [] y = refl
between_last x (z ∷ xs) y =
    ap (λ l. x ++ (codes ", " ++ l)) (between_last z xs y) ∙ sym (append_assoc x (codes ", " ++ comma_between (z ∷ xs)) (codes ", " ++ y))

pub more_between : (xs : List (List ℕ)) (y : List ℕ) → 0 < length xs → comma_between (xs ++ y ∷ []) ≡ comma_between xs ++ (codes ", " ++ y)
more_between [] y some = absurd (omega (arith, some))
more_between (x ∷ xs) y some = between_last x xs y

take_some : (xs : List (List ℕ)) (i : ℕ) → 0 < i → i < length xs → 0 < length (take i xs)
take_some [] i some within = absurd (omega (arith, within))
take_some (x ∷ xs) zero some within = absurd (omega (arith, some))
take_some (x ∷ xs) (suc i) some within = omega arith

-- what is written so far, one more of the texts behind it
module _ (xs : List (List ℕ)) (i : ℕ) (x : List ℕ) (within : i < length xs) (is : get_or xs i x ≡ x) (before after : List ℕ) (so_far : before ≡ 91 ∷ comma_between (take i xs)) where
  here : take (i + 1) xs ≡ take i xs ++ x ∷ []
  here = take_more xs i x within ∙ ap (λ y. take i xs ++ y ∷ []) is

  pub first_behind : i ≡ 0 → after ≡ before ++ x → after ≡ 91 ∷ comma_between (take (i + 1) xs)
  first_behind none made =
      made ∙ ap (λ l. l ++ x) (so_far ∙ ap (λ n. 91 ∷ comma_between (take n xs)) none) ∙ sym (ap (λ l. 91 ∷ comma_between l) (here ∙ ap (λ n. take n xs ++ x ∷ []) none))

  pub next_behind : (mid : List ℕ) → 0 < i → mid ≡ before ++ codes ", " → after ≡ mid ++ x → after ≡ 91 ∷ comma_between (take (i + 1) xs)
  next_behind mid some comma_is made =
      made ∙ ap (λ l. l ++ x) (comma_is ∙ ap (λ l. l ++ codes ", ") so_far)
      ∙ ap (λ l. 91 ∷ l) (append_assoc (comma_between (take i xs)) (codes ", ") x ∙ sym (more_between (take i xs) x (take_some xs i some within)))
      ∙ sym (ap (λ l. 91 ∷ comma_between l) here)
