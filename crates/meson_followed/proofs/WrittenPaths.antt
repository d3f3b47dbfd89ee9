-- The folder around a path, by the path's last part.
use Rattle.std.proofs.Common.{◌≡◌, ℕ, zero, suc, ◌-◌, List, [], ◌∷◌, ◌++◌, length, take, map, refl, sym, ap, arith, ◌∙◌}
use Rattle.std.specs.Prelude.{◌==◌, Bool, true, false, bytes_eq, slice_get, if◌then◌else◌, Some, None, option_map}
use Rattle.std.proofs.lemmas.List.{length-map}
use Rattle.std.proofs.lemmas.Bool.Decides.{nat_tests}
use Rattle.meson_followed.specs.Paths.{around, around_last, upward}

get-map : {X Y : Type 0} (f : X → Y) (xs : List X) (n : ℕ) → option_map f (slice_get xs n) ≡ slice_get (map f xs) n
get-map f [] n = refl
get-map f (x ∷ xs) zero = refl
get-map f (x ∷ xs) (suc n) = get-map f xs n

-- the last part of what is seen of a list
pub last_of_map : {X Y : Type 0} (f : X → Y) (xs : List X) → option_map f (slice_get xs (length xs - 1)) ≡ slice_get (map f xs) (length (map f xs) - 1)
last_of_map f xs = get-map f xs (length xs - 1) ∙ ap (λ n. slice_get (map f xs) (n - 1)) (sym (length-map xs f))

take-map : {X Y : Type 0} (f : X → Y) (n : ℕ) (xs : List X) → map f (take n xs) ≡ take n (map f xs)
take-map f zero xs = refl
take-map f (suc n) [] = refl
take-map f (suc n) (x ∷ xs) = ap (λ ys. f x ∷ ys) (take-map f n xs)

pub without_last : {X Y : Type 0} (f : X → Y) (xs : List X) → map f (take (length xs - 1) xs) ≡ take (length (map f xs) - 1) (map f xs)
without_last f xs = take-map f (length xs - 1) xs ∙ ap (λ n. take (n - 1) (map f xs)) (sym (length-map xs f))

is_nothing : (xs : List ℕ) → bytes_eq xs [] ≡ (length xs == 0)
is_nothing [] = refl
is_nothing (x ∷ xs) = grind (arith, nat_tests)

module _ (path : List (List ℕ)) where
  abbrev up_if : List ℕ → Bool → Bool → List (List ℕ)
  up_if last root up = if root then path else (if up then path ++ upward ∷ [] else take (length path - 1) path)

  pub first_up : slice_get path (length path - 1) ≡ None → around path ≡ path ++ upward ∷ []
  first_up is = ap (around_last path) is

  module _ (last : List ℕ) (is : slice_get path (length path - 1) ≡ Some last) where
    up_is : (root up : Bool) → (length last == 0) ≡ root → bytes_eq last upward ≡ up → around path ≡ up_if last root up
    up_is root up is_root is_up =
        ap (around_last path) is ∙ ap (λ b. up_if last b (bytes_eq last upward)) (is_nothing last ∙ is_root) ∙ ap (up_if last root) is_up

    pub root_stays : (length last == 0) ≡ true → around path ≡ path
    root_stays is_root = up_is true (bytes_eq last upward) is_root refl

    pub part_goes : (length last == 0) ≡ false → bytes_eq last upward ≡ false → around path ≡ take (length path - 1) path
    part_goes is_part is_other = up_is false false is_part is_other

    pub goes_further_up : (length last == 0) ≡ false → bytes_eq last upward ≡ true → around path ≡ path ++ upward ∷ []
    goes_further_up is_part is_up = up_is false true is_part is_up
