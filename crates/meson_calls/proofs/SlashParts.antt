-- The parts of a name, byte after byte.
use Rattle.meson_calls.proofs.Words.{slice_range, ◌≡◌, ℕ, suc, ◌+◌, ◌-◌, ◌<◌, ◌≤◌, List, [], ◌∷◌, ◌++◌, length, get_or, take, drop, sym, ap, ◌∙◌, arith}
use Rattle.meson_calls.proofs.Words.{length-drop, take-suc, nat_tests, at_drop_more, get_or-drop, parts_after}

pub other_byte : (read cs : List ℕ) (c : ℕ) → (c ≡ 47 → ⊥) → parts_after read (c ∷ cs) ≡ parts_after (read ++ c ∷ []) cs
other_byte read cs c other = grind (arith, nat_tests)

pub slash : (read cs : List ℕ) (c : ℕ) → c ≡ 47 → parts_after read (c ∷ cs) ≡ read ∷ parts_after [] cs
slash read cs c is = grind (arith, nat_tests)

one_more : (f : List ℕ) (from i : ℕ) → from ≤ i → i < length f → slice_range f from (i + 1) ≡ slice_range f from i ++ get_or f i 0 ∷ []
one_more f from i le lt =
    let count : (i + 1) - from ≡ suc (i - from) = omega arith in
    let within : i - from < length (drop from f) = omega (arith, length-drop {A = ℕ}) in
    let back : from + (i - from) ≡ i = omega arith in
    ap (λ k. take k (drop from f)) count
    ∙ take-suc (drop from f) (i - from) 0 within
    ∙ ap (λ c. slice_range f from i ++ c ∷ []) (get_or-drop from f (i - from) 0 ∙ ap (λ k. get_or f k 0) back)

module _ (f : List ℕ) (from i : ℕ) (le : from ≤ i) (lt : i < length f) where
  pub past_other : (get_or f i 0 ≡ 47 → ⊥) → parts_after (slice_range f from i) (drop i f) ≡ parts_after (slice_range f from (i + 1)) (drop (i + 1) f)
  past_other other =
      at_drop_more (λ cs. parts_after (slice_range f from i) cs) f i 0 lt
      ∙ other_byte (slice_range f from i) (drop (i + 1) f) (get_or f i 0) other
      ∙ ap (λ read. parts_after read (drop (i + 1) f)) (sym (one_more f from i le lt))

  pub past_slash : get_or f i 0 ≡ 47 → parts_after (slice_range f from i) (drop i f) ≡ slice_range f from i ∷ parts_after (slice_range f (i + 1) (i + 1)) (drop (i + 1) f)
  past_slash is =
      let none : (i + 1) - (i + 1) ≡ 0 = omega arith in
      at_drop_more (λ cs. parts_after (slice_range f from i) cs) f i 0 lt
      ∙ slash (slice_range f from i) (drop (i + 1) f) (get_or f i 0) is
      ∙ ap (λ k. slice_range f from i ∷ parts_after (take k (drop (i + 1) f)) (drop (i + 1) f)) (sym none)
