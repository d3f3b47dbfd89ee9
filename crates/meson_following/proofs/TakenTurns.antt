-- What is taken of the elements of a list, one after another.
use Rattle.std.proofs.Common.{◌≡◌, ℕ, ◌+◌, ◌<◌, ◌≤◌, List, [], ◌∷◌, ◌++◌, length, drop, get_or, sym, ap, ◌∙◌, append_assoc, append-nil}
use Rattle.std.proofs.lemmas.List.{at_drop_all, at_drop_more}

-- two parts
pub two_taken : {C : Type 0} (before middle after a b : List C) → middle ≡ before ++ a → after ≡ middle ++ b → after ≡ before ++ (a ++ b)
two_taken before middle after a b first second = second ∙ ap (λ m. m ++ b) first ∙ append_assoc before a b

-- What is taken of a list whose first element has the number n is that of this element, which counts so much, and then that of the others.
module _ {X C : Type 0} (all : ℕ → List X → List C) (one : ℕ → X → List C) (size : X → ℕ)
    (more : (n : ℕ) (y : X) (ys : List X) → all n (y ∷ ys) ≡ one n y ++ all (n + size y) ys) where
  pub taken_turn : (ys : List X) (i : ℕ) (d : X) (n k : ℕ) (before after whole here : List C) → i < length ys → after ≡ before ++ here
      → here ≡ one n (get_or ys i d) → k ≡ n + size (get_or ys i d) → before ++ all n (drop i ys) ≡ whole → after ++ all k (drop (i + 1) ys) ≡ whole
  taken_turn ys i d n k before after whole here within first is_here next so_far =
      let others : ℕ → List C = λ m. all m (drop (i + 1) ys) in
      let y = get_or ys i d in
      ap (λ a. a ++ others k) first
      ∙ append_assoc before here (others k)
      ∙ ap (λ h. before ++ (h ++ others k)) is_here
      ∙ ap (λ m. before ++ (one n y ++ others m)) next
      ∙ ap (λ l. before ++ l) (sym (at_drop_more (all n) ys i d within ∙ more n y (drop (i + 1) ys)))
      ∙ so_far

-- nothing is left
pub taken_all : {X C : Type 0} (all : List X → List C) (ys : List X) (i : ℕ) (now whole : List C) → all [] ≡ [] → length ys ≤ i → now ++ all (drop i ys) ≡ whole → now ≡ whole
taken_all all ys i now whole none past so_far =
    sym (append-nil now) ∙ ap (λ l. now ++ l) (sym (at_drop_all all ys i past ∙ none)) ∙ so_far
