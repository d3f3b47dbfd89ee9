-- The greatest of some numbers, and the last key before an offset.
use Rattle.std.proofs.Common.{◌≡◌, ℕ, ◌≤◌, true, false, List, [], ◌∷◌, Some, refl, sym, ◌∙◌, subst, inl, inr, arith}
use Rattle.std.specs.Prelude.{Bool, ◌⊎◌, max, nat_le, nat_lt}
use Rattle.std.specs.List.{fold, reduce}
use Rattle.std.proofs.lemmas.Bool.{leb-false, leb-true, lt-ltb, ltb-true}
use Rattle.meson_syntax.proofs.parsing.Steps.{some-injective}
use Rattle.meson_places.specs.ColonLaws.{IsLastBefore, TakesLastColon}
use Rattle.meson_places.specs.Colons.{ends_before}
use Rattle.meson_places.proofs.Found.{Among, among, contained, kept, kept_by}

one_of_two : (x y : ℕ) → (max x y ≡ x) ⊎ (max x y ≡ y)
one_of_two x y = go (nat_le y x) refl
  where
    go : (b : Bool) → nat_le y x ≡ b → (max x y ≡ x) ⊎ (max x y ≡ y)
    go true h = let low = leb-true y x h in inl (omega (arith, low))
    go false h = let low = leb-false y x h in inr (omega (arith, low))

reached : (x : ℕ) (xs : List ℕ) → Among (x ∷ xs) (fold max x xs)
reached x [] = inl refl
reached x (y ∷ ys) = go (reached (max x y) ys)
  where
    r : ℕ
    r = fold max (max x y) ys

    two : (max x y ≡ x) ⊎ (max x y ≡ y) → max x y ≡ r → Among (x ∷ y ∷ ys) r
    two (inl first) same = inl (sym first ∙ same)
    two (inr second) same = inr (inl (sym second ∙ same))

    go : Among (max x y ∷ ys) r → Among (x ∷ y ∷ ys) r
    go (inl same) = two (one_of_two x y) same
    go (inr m) = inr (inr m)

above : (x : ℕ) (xs : List ℕ) → x ≤ fold max x xs
above x [] = omega arith
above x (y ∷ ys) = let further = above (max x y) ys in omega (arith, further)

greatest : (x : ℕ) (xs : List ℕ) (z : ℕ) → Among (x ∷ xs) z → z ≤ fold max x xs
greatest x xs z (inl same) = let first = above x xs in omega (arith, first, same)
greatest x (y ∷ ys) z (inr (inl same)) = let first = above (max x y) ys in omega (arith, first, same)
greatest x (y ∷ ys) z (inr (inr m)) = greatest (max x y) ys z (inr m)
greatest x [] z (inr none) = absurd none

pub takes_last_colon : TakesLastColon
takes_last_colon ends at_ end is = go (ends_before at_ ends) refl is
  where
    go : (xs : List ℕ) → ends_before at_ ends ≡ xs → reduce max xs ≡ Some end → IsLastBefore ends at_ end
    go [] are h = absurd (let no : ⊥ = cc in no)
    go (x ∷ xs) are h =
        let same : fold max x xs ≡ end = some-injective (fold max x xs) end h in
        let it = kept_by (λ e. nat_lt e at_) ends end (subst (λ ys. Among ys end) (sym are) (subst (Among (x ∷ xs)) same (reached x xs))) in
        record {
          is_one = contained ends end it.1;
          is_before = ltb-true end at_ it.0;
          is_last = λ other c before.
              let low = greatest x xs other (subst (λ ys. Among ys other) are (kept (λ e. nat_lt e at_) ends other (among ends other c.0 c.1 c.2) (lt-ltb other at_ before))) in
              omega (arith, low, same);
        }
