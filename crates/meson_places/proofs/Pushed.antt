-- A list to which is added what one element after another gives.
use Rattle.std.proofs.Common.{◌≡◌, ℕ, ◌+◌, ◌<◌, ◌≤◌, List, [], ◌∷◌, ◌++◌, append_assoc, drop, get_or, length, sym, ap, ◌∙◌}
use Rattle.std.proofs.lemmas.List.{append-nil, at_drop_all, at_drop_more}

pub pushed_more : {X : Type 0} (all : List X → List ℕ) (one : X → List ℕ) → ((x : X) (xs : List X) → all (x ∷ xs) ≡ one x ++ all xs)
    → (xs : List X) (i : ℕ) (d : X) → i < length xs → (old new : List ℕ) → new ≡ old ++ one (get_or xs i d) → new ++ all (drop (i + 1) xs) ≡ old ++ all (drop i xs)
pushed_more all one step xs i d within old new is =
    ap (λ ns. ns ++ all (drop (i + 1) xs)) is ∙ append_assoc old (one (get_or xs i d)) (all (drop (i + 1) xs))
    ∙ ap (λ ns. old ++ ns) (sym (step (get_or xs i d) (drop (i + 1) xs)) ∙ sym (at_drop_more all xs i d within))

pub pushed_all : {X : Type 0} (all : List X → List ℕ) → all [] ≡ [] → (xs : List X) (i : ℕ) → length xs ≤ i → (now : List ℕ) → now ++ all (drop i xs) ≡ now
pushed_all all none xs i past now = ap (λ ns. now ++ ns) (at_drop_all all xs i past ∙ none) ∙ append-nil now
