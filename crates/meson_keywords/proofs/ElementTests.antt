-- Texts are tested one after another whether they may be the elements of a list.
use Rattle.meson_keywords.proofs.Words.{◌≡◌, ℕ, suc, ◌+◌, ◌<◌, ◌≤◌, true, false, List, [], ◌∷◌, length, get_or, drop, refl, sym, ap, ◌∙◌, add-one, Bool, ◌&&◌}
use Rattle.meson_keywords.proofs.Words.{list_all, drop-cons, drop_all, are_elements, is_identifier, ElementKind}
use Rattle.meson_keywords.specs.declared.value_kinds.ElementKind.TheVariants as element

and_true : (b : Bool) → b && true ≡ b
and_true true = refl
and_true false = refl

pub lone_identifier : (e : ElementKind) (t : List ℕ) (b : Bool) → e ≡ element.Identifier → b ≡ is_identifier t → b ≡ are_elements e (t ∷ [])
lone_identifier e t b kind is = is ∙ sym (and_true (is_identifier t)) ∙ ap (λ k. are_elements k (t ∷ [])) (sym kind)

first_and_rest : (e : ElementKind) (t : List ℕ) (ts : List (List ℕ)) → are_elements e (t ∷ ts) ≡ are_elements e (t ∷ []) && are_elements e ts
first_and_rest element.Text t ts = refl
first_and_rest element.Identifier t ts = ap (λ b. b && list_all is_identifier ts) (sym (and_true (is_identifier t)))

none_to_test : (e : ElementKind) → are_elements e [] ≡ true
none_to_test element.Text = refl
none_to_test element.Identifier = refl

module _ (e : ElementKind) (ts : List (List ℕ)) (i : ℕ) (so_far : are_elements e (drop i ts) ≡ are_elements e ts) where
  pub all_known : length ts ≤ i → are_elements e ts ≡ true
  all_known past = sym so_far ∙ ap (are_elements e) (drop_all i ts past) ∙ none_to_test e

  module _ (t : List ℕ) (within : i < length ts) (read : get_or ts i t ≡ t) where
    rest_is : drop i ts ≡ t ∷ drop (i + 1) ts
    rest_is = drop-cons ts i t within ∙ ap (λ x. x ∷ drop (suc i) ts) read ∙ ap (λ k. t ∷ drop k ts) (sym (add-one i))

    whole : are_elements e (t ∷ []) && are_elements e (drop (i + 1) ts) ≡ are_elements e ts
    whole = sym (first_and_rest e t (drop (i + 1) ts)) ∙ ap (are_elements e) (sym rest_is) ∙ so_far

    pub next_known : true ≡ are_elements e (t ∷ []) → are_elements e (drop (i + 1) ts) ≡ are_elements e ts
    next_known is = ap (λ b. b && are_elements e (drop (i + 1) ts)) is ∙ whole

    pub one_unfit : false ≡ are_elements e (t ∷ []) → false ≡ are_elements e ts
    one_unfit is = ap (λ b. b && are_elements e (drop (i + 1) ts)) is ∙ whole
