-- Searches of lists one after another.
use Rattle.std.proofs.Common.{◌≡◌, ℕ, ◌+◌, ◌<◌, ◌≤◌, List, [], ◌∷◌, ◌++◌, length, drop, get_or, sym, ap, ◌∙◌}
use Rattle.std.specs.Prelude.{Bool, true, false, ◌||◌}
use Rattle.std.specs.List.{list_any}
use Rattle.std.proofs.lemmas.List.{at_drop_more, at_drop_all}
use Rattle.std.proofs.lemmas.List.Folds.{list_any-append}

module _ {X : Type 0} (test : X → Bool) where
  pub first_found : (xs ys zs : List X) (b : Bool) → zs ≡ xs ++ ys → b ≡ list_any test xs → b ≡ true → true ≡ list_any test zs
  first_found xs ys zs b is first found = sym (ap (list_any test) is ∙ list_any-append test xs ys ∙ ap (λ x. x || list_any test ys) (sym first ∙ found))

  pub then_found : (xs ys zs : List X) (b c : Bool) → zs ≡ xs ++ ys → b ≡ list_any test xs → b ≡ false → c ≡ list_any test ys → c ≡ list_any test zs
  then_found xs ys zs b c is first none second = second ∙ sym (ap (list_any test) is ∙ list_any-append test xs ys ∙ ap (λ x. x || list_any test ys) (sym first ∙ none))

  -- what is searched of a list is that of its first element and then that of the others
  module _ {A : Type 0} (all : List A → List X) (one : A → List X) (more : (a : A) (as_ : List A) → all (a ∷ as_) ≡ one a ++ all as_) where
    next : (list : List A) (i : ℕ) (d : A) → i < length list → list_any test (all (drop i list)) ≡ (list_any test (one (get_or list i d)) || list_any test (all (drop (i + 1) list)))
    next list i d within =
        ap (list_any test) (at_drop_more all list i d within ∙ more (get_or list i d) (drop (i + 1) list)) ∙ list_any-append test (one (get_or list i d)) (all (drop (i + 1) list))

    pub found_at : (list : List A) (i : ℕ) (d : A) (b whole : Bool) → i < length list → b ≡ list_any test (one (get_or list i d)) → b ≡ true → list_any test (all (drop i list)) ≡ whole → true ≡ whole
    found_at list i d b whole within is found so_far = sym (sym so_far ∙ next list i d within ∙ ap (λ x. x || list_any test (all (drop (i + 1) list))) (sym is ∙ found))

    pub none_at : (list : List A) (i : ℕ) (d : A) (b whole : Bool) → i < length list → b ≡ list_any test (one (get_or list i d)) → b ≡ false → list_any test (all (drop i list)) ≡ whole
        → list_any test (all (drop (i + 1) list)) ≡ whole
    none_at list i d b whole within is none so_far = sym (next list i d within ∙ ap (λ x. x || list_any test (all (drop (i + 1) list))) (sym is ∙ none)) ∙ so_far

    pub none_left : (list : List A) (i : ℕ) (whole : Bool) → all [] ≡ [] → length list ≤ i → list_any test (all (drop i list)) ≡ whole → false ≡ whole
    none_left list i whole empty past so_far = sym (sym so_far ∙ ap (list_any test) (at_drop_all all list i past ∙ empty))
