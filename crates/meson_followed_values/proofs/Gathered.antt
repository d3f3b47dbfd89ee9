-- Values that are gathered of elements, one after another.
use Rattle.std.proofs.Common.{◌≡◌, ℕ, ◌+◌, ◌<◌, List, [], ◌∷◌, ◌++◌, append_assoc, drop, get_or, length, Option, Some, None, sym, ap, ◌∙◌, add-one}
use Rattle.std.specs.List.{cons_option, filter_map}
use Rattle.std.proofs.Math.Seq.{drop-cons}

module _ {X Y : Type 0} (f : X → Option Y) (xs : List X) (i : ℕ) (x : X) (below : i < length xs) (is : get_or xs i x ≡ x) where
  pub split_at : drop i xs ≡ x ∷ drop (i + 1) xs
  split_at = drop-cons xs i x below ∙ ap (λ k. get_or xs i x ∷ drop k xs) (sym (add-one i)) ∙ ap (λ w. w ∷ drop (i + 1) xs) is

  pub with_one : (y : Y) → f x ≡ Some y → (found : List Y) → (found ++ y ∷ []) ++ filter_map f (drop (i + 1) xs) ≡ found ++ filter_map f (drop i xs)
  with_one y gives found =
      append_assoc found (y ∷ []) (filter_map f (drop (i + 1) xs))
      ∙ ap (λ ys. found ++ ys) (sym (ap (filter_map f) split_at ∙ ap (λ o. cons_option o (filter_map f (drop (i + 1) xs))) gives))

  pub with_none : f x ≡ None → (found : List Y) → found ++ filter_map f (drop (i + 1) xs) ≡ found ++ filter_map f (drop i xs)
  with_none gives found =
      ap (λ ys. found ++ ys) (sym (ap (filter_map f) split_at ∙ ap (λ o. cons_option o (filter_map f (drop (i + 1) xs))) gives))
