-- Lists that are gone through one element after another.
use Rattle.std.proofs.Common.{◌≡◌, ℕ, ◌+◌, ◌<◌, List, [], ◌∷◌, ◌++◌, length, drop, get_or, refl, sym, ap, ◌∙◌, append_assoc}
use Rattle.std.specs.Prelude.{Bool, true, false, filter, if◌then◌else◌}
use Rattle.std.proofs.lemmas.List.{at_drop_more}

module _ {X : Type 0} (test : X → Bool) (xs : List X) (i : ℕ) (x : X) (within : i < length xs) (at_i : x ≡ get_or xs i x) where
  -- ---- those that pass a test

  kept_next : filter test (drop i xs) ≡ (if test x then x ∷ filter test (drop (i + 1) xs) else filter test (drop (i + 1) xs))
  kept_next = at_drop_more (filter test) xs i x within ∙ ap (λ y. filter test (y ∷ drop (i + 1) xs)) (sym at_i)

  one_kept : (b : Bool) → (if b then x ∷ [] else []) ++ filter test (drop (i + 1) xs) ≡ (if b then x ∷ filter test (drop (i + 1) xs) else filter test (drop (i + 1) xs))
  one_kept true = refl
  one_kept false = refl

  pub value_turned : (before after whole : List X) (b : Bool) → b ≡ test x → after ≡ before ++ (if b then x ∷ [] else [])
      → before ++ filter test (drop i xs) ≡ whole → after ++ filter test (drop (i + 1) xs) ≡ whole
  value_turned before after whole b is joins so_far =
      ap (λ a. a ++ filter test (drop (i + 1) xs)) (joins ∙ ap (λ c. before ++ (if c then x ∷ [] else [])) is)
      ∙ append_assoc before (if test x then x ∷ [] else []) (filter test (drop (i + 1) xs))
      ∙ ap (λ l. before ++ l) (one_kept (test x) ∙ sym kept_next) ∙ so_far
