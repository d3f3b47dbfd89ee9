-- Tests of lists, one element after another.
use Rattle.meson_variables.proofs.Words.{◌≡◌, ℕ, ◌+◌, ◌<◌, List, [], ◌∷◌, length, get_or, take, map, refl, sym, ap, ◌∙◌, Bool, true, ◌||◌, list_any}
use Rattle.std.proofs.lemmas.List.Folds.{list_any_at, list_any_more}

pub any-map : {X Y : Type 0} (f : Y → Bool) (g : X → Y) (xs : List X) → list_any f (map g xs) ≡ list_any (λ x. f (g x)) xs
any-map f g [] = refl
any-map f g (x ∷ xs) = ap (λ b. f (g x) || b) (any-map f g xs)

module _ {X Y : Type 0} (f : Y → Bool) (g : X → Y) where
  pub any_here : (xs : List X) (i : ℕ) (d : X) → i < length xs → f (g (get_or xs i d)) ≡ true → list_any f (map g xs) ≡ true
  any_here xs i d within is = any-map f g xs ∙ list_any_at (λ x. f (g x)) xs i d within is

  pub any_more : (xs : List X) (i : ℕ) (d : X) → i < length xs → list_any f (map g (take (i + 1) xs)) ≡ (list_any f (map g (take i xs)) || f (g (get_or xs i d)))
  any_more xs i d within =
      any-map f g (take (i + 1) xs) ∙ list_any_more (λ x. f (g x)) xs i d within ∙ ap (λ b. b || f (g (get_or xs i d))) (sym (any-map f g (take i xs)))
