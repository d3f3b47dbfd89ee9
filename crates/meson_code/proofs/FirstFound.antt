-- The first element that passes a test, in lists that are joined and searched one after another; and whether one of them passes it.
use Rattle.std.proofs.Common.{◌≡◌, ℕ, ◌+◌, ◌<◌, List, ◌∷◌, ◌++◌, length, drop, get_or, Option, Some, None, sym, ap, ◌∙◌}
use Rattle.std.specs.Prelude.{Bool, true, false, ◌||◌}
use Rattle.std.specs.Option.{option_or}
use Rattle.std.specs.List.{find, list_any}
use Rattle.std.proofs.lemmas.List.{at_drop_more}
use Rattle.std.proofs.lemmas.List.Folds.{find-append, list_any-append}

-- The elements of a list from its i-th one on are those of this one, and then those of the others.
module _ {X Y : Type 0} (p : Y → Bool) (all : List X → List Y) (one : X → List Y) (more : (x : X) (xs : List X) → all (x ∷ xs) ≡ one x ++ all xs) where
  module _ (xs : List X) (i : ℕ) (d : X) (whole : Option Y) (within : i < length xs) (so_far : find p (all (drop i xs)) ≡ whole) where
    abbrev later : Option Y
    later = find p (all (drop (i + 1) xs))

    parted : option_or (find p (one (get_or xs i d))) later ≡ whole
    parted =
        sym (find-append p (one (get_or xs i d)) (all (drop (i + 1) xs)))
        ∙ ap (find p) (sym (at_drop_more all xs i d within ∙ more (get_or xs i d) (drop (i + 1) xs)))
        ∙ so_far

    pub none_here : None ≡ find p (one (get_or xs i d)) → later ≡ whole
    none_here none = ap (λ o. option_or o later) none ∙ parted

    pub found_here : (y : Y) → Some y ≡ find p (one (get_or xs i d)) → Some y ≡ whole
    found_here y is = ap (λ o. option_or o later) is ∙ parted

-- the same of a test, where the first element of the list has a number
module _ {X Y : Type 0} (p : Y → Bool) (all : ℕ → List X → List Y) (one : ℕ → X → List Y) (more : (n : ℕ) (x : X) (xs : List X) → all n (x ∷ xs) ≡ one n x ++ all (n + 1) xs) where
  module _ (xs : List X) (i : ℕ) (d : X) (whole : Bool) (within : i < length xs) (so_far : list_any p (all i (drop i xs)) ≡ whole) where
    abbrev others : Bool
    others = list_any p (all (i + 1) (drop (i + 1) xs))

    joined : (list_any p (one i (get_or xs i d)) || others) ≡ whole
    joined =
        sym (list_any-append p (one i (get_or xs i d)) (all (i + 1) (drop (i + 1) xs)))
        ∙ ap (list_any p) (sym (at_drop_more (all i) xs i d within ∙ more i (get_or xs i d) (drop (i + 1) xs)))
        ∙ so_far

    pub not_here : false ≡ list_any p (one i (get_or xs i d)) → others ≡ whole
    not_here none = ap (λ b. b || others) none ∙ joined

    pub any_here : true ≡ list_any p (one i (get_or xs i d)) → true ≡ whole
    any_here is = ap (λ b. b || others) is ∙ joined

-- The first that the elements of a list give is that of this element, or else that of the others.
module _ {X Y : Type 0} (all : List X → Option Y) (one : X → Option Y) (more : (x : X) (xs : List X) → all (x ∷ xs) ≡ option_or (one x) (all xs)) where
  module _ (xs : List X) (i : ℕ) (d : X) (whole : Option Y) (within : i < length xs) (so_far : all (drop i xs) ≡ whole) where
    this_or : option_or (one (get_or xs i d)) (all (drop (i + 1) xs)) ≡ whole
    this_or = sym (at_drop_more all xs i d within ∙ more (get_or xs i d) (drop (i + 1) xs)) ∙ so_far

    pub gives_none : None ≡ one (get_or xs i d) → all (drop (i + 1) xs) ≡ whole
    gives_none none = ap (λ o. option_or o (all (drop (i + 1) xs))) none ∙ this_or

    pub gives : (y : Y) → Some y ≡ one (get_or xs i d) → Some y ≡ whole
    gives y is = ap (λ o. option_or o (all (drop (i + 1) xs))) is ∙ this_or
