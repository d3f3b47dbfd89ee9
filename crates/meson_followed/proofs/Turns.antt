-- What is made of the elements of a list, one after another.
use Rattle.std.proofs.Common.{◌≡◌, ℕ, ◌+◌, ◌<◌, ◌≤◌, List, length, drop, get_or, map, sym, ap, ◌∙◌}
use Rattle.std.specs.List.{fold}
use Rattle.std.proofs.lemmas.List.{at_drop_all, at_drop_more}

module _ {A B X : Type 0} (f : B → A → B) (view : X → A) (xs : List X) where
  pub fold_turn : (i : ℕ) (d x : X) (before after whole : B) → i < length xs → x ≡ get_or xs i d → after ≡ f before (view x)
      → fold f before (map view (drop i xs)) ≡ whole → fold f after (map view (drop (i + 1) xs)) ≡ whole
  fold_turn i d x before after whole within at_i step so_far =
      ap (λ b. fold f b (map view (drop (i + 1) xs))) (step ∙ ap (λ y. f before (view y)) at_i)
      ∙ sym (at_drop_more (λ ys. fold f before (map view ys)) xs i d within)
      ∙ so_far

  pub fold_all : (i : ℕ) (now whole : B) → length xs ≤ i → fold f now (map view (drop i xs)) ≡ whole → now ≡ whole
  fold_all i now whole past so_far = sym (at_drop_all (λ ys. fold f now (map view ys)) xs i past) ∙ so_far
