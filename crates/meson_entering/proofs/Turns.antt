-- What is gathered of the elements of a list one after another.
use Rattle.std.proofs.Common.{◌≡◌, ℕ, ◌+◌, ◌<◌, ◌≤◌, List, [], ◌∷◌, ◌++◌, length, drop, get_or, map, Option, Some, None, refl, sym, ap, ◌∙◌}
use Rattle.std.specs.List.{cons_option, filter_map, flat_map}
use Rattle.std.proofs.lemmas.List.{append-nil, append_assoc, at_drop_all, at_drop_more, map-append}
use Rattle.std.proofs.lemmas.List.Folds.{flat_map-map}

module _ {X Y : Type 0} (f : X → List Y) where
  pub next : (xs : List X) (i : ℕ) (d : X) (before after whole : List Y) → i < length xs → after ≡ before ++ f (get_or xs i d) → before ++ flat_map f (drop i xs) ≡ whole
      → after ++ flat_map f (drop (i + 1) xs) ≡ whole
  next xs i d before after whole within is so_far =
      let more = flat_map f (drop (i + 1) xs) in
      ap (λ a. a ++ more) is ∙ append_assoc before (f (get_or xs i d)) more ∙ sym (ap (λ t. before ++ t) (at_drop_more (flat_map f) xs i d within)) ∙ so_far

  pub ended : (xs : List X) (i : ℕ) (before whole : List Y) → length xs ≤ i → before ++ flat_map f (drop i xs) ≡ whole → before ≡ whole
  ended xs i before whole past so_far = sym (append-nil before) ∙ sym (ap (λ t. before ++ t) (at_drop_all (flat_map f) xs i past)) ∙ so_far

pub optional : {X Y : Type 0} (f : X → Option Y) (xs : List X) → filter_map f xs ≡ flat_map (λ x. cons_option (f x) []) xs
optional f [] = refl
optional {X} {Y} f (x ∷ xs) = go (f x) (optional f xs)
  where
    go : (o : Option Y) → filter_map f xs ≡ flat_map (λ x. cons_option (f x) []) xs → cons_option o (filter_map f xs) ≡ cons_option o [] ++ flat_map (λ x. cons_option (f x) []) xs
    go None more = more
    go (Some y) more = ap (λ ys. y ∷ ys) more

-- of what the elements mean
pub through : {X Y Z : Type 0} (f : Y → List Z) (v : X → Y) (xs : List X) (ys : List Y) → map v xs ≡ ys → flat_map (λ x. f (v x)) xs ≡ flat_map f ys
through f v xs ys is = sym (flat_map-map f v xs) ∙ ap (flat_map f) is

pub chosen_through : {X Y Z : Type 0} (f : Y → Option Z) (v : X → Y) (xs : List X) → filter_map (λ x. f (v x)) xs ≡ filter_map f (map v xs)
chosen_through f v [] = refl
chosen_through f v (x ∷ xs) = ap (cons_option (f (v x))) (chosen_through f v xs)

-- ---- one more, or none

module _ {T Y : Type 0} (bytes : T → Y) (items after : List T) (o : Option Y) where
  pub with_one : (text : T) → o ≡ Some (bytes text) → after ≡ items ++ text ∷ [] → map bytes after ≡ map bytes items ++ cons_option o []
  with_one text is joins = ap (map bytes) joins ∙ map-append bytes items (text ∷ []) ∙ sym (ap (λ p. map bytes items ++ cons_option p []) is)

  pub with_none : o ≡ None → after ≡ items → map bytes after ≡ map bytes items ++ cons_option o []
  with_none is same = ap (map bytes) same ∙ sym (append-nil (map bytes items)) ∙ sym (ap (λ p. map bytes items ++ cons_option p []) is)
