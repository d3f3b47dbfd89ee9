-- A list whose elements are exchanged in place, one after another.
use Rattle.std.proofs.Common.{◌≡◌, ℕ, zero, suc, ◌+◌, ◌<◌, ◌≤◌, List, [], ◌∷◌, ◌++◌, map, take, drop, length, get_or, slice_set, refl, ap, ◌∙◌, arith}
use Rattle.std.proofs.lemmas.List.{get_or_default}
use Rattle.std.proofs.lemmas.List.Edits.{map_over_more}
use Rattle.std.proofs.lemmas.List.Recursion.{max_bounds}
use Rattle.meson_syntax.specs.Furthest.{greatest}

-- the elements before the i-th are exchanged
abbrev pub exchanged : {A : Type 0} → (A → A) → ℕ → List A → List A
exchanged f i xs = map f (take i xs) ++ drop i xs

-- from there on stand the old elements
pub still_there : {A : Type 0} (f : A → A) (xs : List A) (i : ℕ) (d : A) → get_or (exchanged f i xs) i d ≡ get_or xs i d
still_there f [] zero d = refl
still_there f [] (suc i) d = refl
still_there f (x ∷ xs) zero d = refl
still_there f (x ∷ xs) (suc i) d = still_there f xs i d

-- one more: what stands at i is still the old element
pub next_exchanged : {A : Type 0} (f : A → A) (xs ys : List A) (i : ℕ) (d y : A) → i < length xs → length ys ≡ length xs → ys ≡ exchanged f i xs
    → y ≡ f (get_or ys i d) → slice_set ys i y ≡ exchanged f (i + 1) xs
next_exchanged f xs ys i d y within same so_far is =
    let x = get_or ys i d in
    let here = get_or_default ys i d x (omega (arith, within, same)) in
    ap (λ z. slice_set ys i z) is ∙ map_over_more f xs ys i x within so_far here

-- an element that still stands there has no more than the greatest number
pub at_most_greatest : {A : Type 0} (f : A → ℕ) (xs ys : List A) (i : ℕ) (d : A) → i < length xs → get_or ys i d ≡ get_or xs i d
    → f (get_or ys i d) ≤ greatest (map f xs)
at_most_greatest f xs ys i d within here =
    let most = max_bounds (λ xs. greatest (map f xs)) f refl (λ x xs. refl) xs i d within in
    omega (arith, most, ap f here)
