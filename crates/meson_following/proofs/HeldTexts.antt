-- Whether a text is part of another, from each place of it on.
use Rattle.std.proofs.Common.{◌≡◌, ℕ, ◌+◌, ◌<◌, ◌≤◌, List, [], length, drop, sym, ap, ◌∙◌}
use Rattle.std.specs.Prelude.{nat_eq, Bool, true, false, ◌||◌}
use Rattle.std.specs.List.{starts_with}
use Rattle.std.proofs.lemmas.List.{at_drop_all, at_drop_more}
use Rattle.meson_following.specs.Reads.{holds_text}

module _ (part text : List ℕ) (i : ℕ) (whole : Bool) where
  next : i < length text → holds_text part (drop i text) ≡ (starts_with nat_eq (drop i text) part || holds_text part (drop (i + 1) text))
  next within =
      let is : drop i text ≡ _ = at_drop_more (λ cs. cs) text i 0 within in
      ap (holds_text part) is ∙ ap (λ b. b || holds_text part (drop (i + 1) text)) (ap (λ cs. starts_with nat_eq cs part) (sym is))

  pub text_found : (here : List ℕ) → here ≡ drop i text → i < length text → starts_with nat_eq here part ≡ true → holds_text part (drop i text) ≡ whole → true ≡ whole
  text_found here at_i within is so_far =
      sym (next within ∙ ap (λ b. b || holds_text part (drop (i + 1) text)) (ap (λ cs. starts_with nat_eq cs part) (sym at_i) ∙ is)) ∙ so_far

  pub text_passed : (here : List ℕ) → here ≡ drop i text → i < length text → starts_with nat_eq here part ≡ false → holds_text part (drop i text) ≡ whole
      → holds_text part (drop (i + 1) text) ≡ whole
  text_passed here at_i within is so_far =
      sym (next within ∙ ap (λ b. b || holds_text part (drop (i + 1) text)) (ap (λ cs. starts_with nat_eq cs part) (sym at_i) ∙ is)) ∙ so_far

  pub text_ended : length text ≤ i → holds_text part (drop i text) ≡ whole → starts_with nat_eq [] part ≡ whole
  text_ended past so_far = sym (at_drop_all (holds_text part) text i past) ∙ so_far
