-- Names each once, gathered one after another; and a list of references that is filtered by what they point to.
use Rattle.meson_steps.proofs.Words.{◌≡◌, ℕ, ◌+◌, ◌<◌, List, [], ◌∷◌, ◌++◌, length, get_or, drop, map, refl, sym, ap, ◌∙◌, Bool, true, false, bytes_eq, reverse}
use Rattle.meson_steps.proofs.Words.{if◌then◌else◌, filter, list_any, add-one, All, append_assoc, reverse-append, All-head, All-tail, All-cons, one_of}
use Rattle.meson_steps.proofs.Words.{distinct_by}
use Rattle.std.proofs.Math.Seq.{drop-cons}
use Rattle.std.proofs.lemmas.List.Sorted.{list_any-IsPermutation, IsPermutation-reverse}

turned : (f : List ℕ → Bool) (xs : List (List ℕ)) → list_any f (reverse xs) ≡ list_any f xs
turned f xs = sym (list_any-IsPermutation f xs (reverse xs) (IsPermutation-reverse xs))

module _ (all : List (List ℕ)) (x : List ℕ) (xs : List (List ℕ)) where
  one_more : list_any (λ y. bytes_eq y x) all ≡ false → (all ++ x ∷ []) ++ distinct_by (reverse (all ++ x ∷ [])) xs ≡ all ++ distinct_by (reverse all) (x ∷ xs)
  one_more unseen =
      ap (λ r. (all ++ x ∷ []) ++ distinct_by r xs) (reverse-append all (x ∷ []))
      ∙ append_assoc all (x ∷ []) (distinct_by (x ∷ reverse all) xs)
      ∙ ap (λ b. all ++ (if b then distinct_by (reverse all) xs else x ∷ distinct_by (x ∷ reverse all) xs)) (sym (turned (λ y. bytes_eq y x) all ∙ unseen))

  no_more : list_any (λ y. bytes_eq y x) all ≡ true → all ++ distinct_by (reverse all) xs ≡ all ++ distinct_by (reverse all) (x ∷ xs)
  no_more seen = ap (λ b. all ++ (if b then distinct_by (reverse all) xs else x ∷ distinct_by (x ∷ reverse all) xs)) (sym (turned (λ y. bytes_eq y x) all ∙ seen))

module _ (names : List (List ℕ)) (i : ℕ) (d : List ℕ) (within : i < length names) (all : List (List ℕ)) where
  abbrev here : List ℕ
  here = get_or names i d

  rest_is : drop i names ≡ here ∷ drop (i + 1) names
  rest_is = drop-cons names i d within ∙ ap (λ k. here ∷ drop k names) (sym (add-one i))

  pub distinct_more : list_any (λ y. bytes_eq y here) all ≡ false → (all ++ here ∷ []) ++ distinct_by (reverse (all ++ here ∷ [])) (drop (i + 1) names) ≡ all ++ distinct_by (reverse all) (drop i names)
  distinct_more unseen = one_more all here (drop (i + 1) names) unseen ∙ ap (λ ys. all ++ distinct_by (reverse all) ys) (sym rest_is)

  pub distinct_same : list_any (λ y. bytes_eq y here) all ≡ true → all ++ distinct_by (reverse all) (drop (i + 1) names) ≡ all ++ distinct_by (reverse all) (drop i names)
  distinct_same seen = no_more all here (drop (i + 1) names) seen ∙ ap (λ ys. all ++ distinct_by (reverse all) ys) (sym rest_is)

pub filter_under : {X Y : Type 0} (g : X → Y) (test : Y → Bool) (xs : List X) → map g (filter (λ x. test (g x)) xs) ≡ filter test (map g xs)
filter_under g test [] = refl
filter_under g test (x ∷ xs) = elim (test (g x)) as (λ b. map g (if b then x ∷ filter (λ y. test (g y)) xs else filter (λ y. test (g y)) xs) ≡ (if b then g x ∷ filter test (map g xs) else filter test (map g xs))) [
  | true ↦ ap (λ ys. g x ∷ ys) (filter_under g test xs)
  | false ↦ filter_under g test xs
]

-- ---- what holds of each name

pub All-distinct : (P : List ℕ → Type 0) (seen names : List (List ℕ)) → All P names → All P (distinct_by seen names)
All-distinct P seen [] all = all
All-distinct P seen (x ∷ xs) all =
    let rest = All-tail P x xs all in
    go (one_of seen x) (All-distinct P seen xs rest) (All-distinct P (x ∷ seen) xs rest)
  where
    go : (b : Bool) → All P (distinct_by seen xs) → All P (distinct_by (x ∷ seen) xs) → All P (if b then distinct_by seen xs else x ∷ distinct_by (x ∷ seen) xs)
    go true without more = without
    go false without more = All-cons P x (distinct_by (x ∷ seen) xs) (All-head P x xs all) more
