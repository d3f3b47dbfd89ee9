-- What is chosen of the elements of a list, the first of it, and names that are kept once.
use Rattle.std.proofs.Common.{◌≡◌, inl, inr, ℕ, zero, suc, ◌<◌, List, [], ◌∷◌, length, refl, sym, ap, ◌∙◌, subst, arith}
use Rattle.std.specs.Prelude.{slice_index_or, slice_get, Bool, true, false, bytes_eq, if◌then◌else◌, Option, Some, None, ◌⊎◌}
use Rattle.std.specs.List.{All, Contains, cons_option, filter_map}
use Rattle.std.proofs.lemmas.Bool.{false≢true, or_cases}
use Rattle.std.proofs.lemmas.List.Elements.{All-cons, All-head, All-nil, All-tail, Contains-append_right}
use Rattle.std.proofs.lemmas.Slice.Eq.{bytes_eq-Decides}
use Rattle.meson_syntax.proofs.parsing.Steps.{some-injective}
use Rattle.meson_syntax.proofs.paths.Every.{Every}
use Rattle.meson_calls.specs.Roles.{one_of}
use Rattle.meson_steps.specs.Names.{distinct, distinct_by}
use Rattle.meson_sharing.specs.Sharing.{first_name}

-- ---- what is chosen

in_more : {C : Type 0} (o : Option C) (rest : List C) (x : C) → Contains rest x → Contains (cons_option o rest) x
in_more None rest x has = has
in_more (Some y) rest x has = Contains-append_right (y ∷ []) rest x has

first_of_all : {C : Type 0} (o : Option C) (rest : List C) (x : C) → o ≡ Some x → Contains (cons_option o rest) x
first_of_all None rest x is = absurd (let no : ⊥ = cc in no)
first_of_all (Some y) rest x is = (0, omega arith, some-injective y x is)

module _ {X Y : Type 0} (choose : X → Option Y) where
  pub chosen_has : (xs : List X) (x : X) (y : Y) → Contains xs x → choose x ≡ Some y → Contains (filter_map choose xs) y
  chosen_has [] x y c is = let within = c.1 in absurd (omega (arith, within))
  chosen_has (z ∷ zs) x y c is = go c.0 c.1 c.2 (λ i within same. chosen_has zs x y (i, within, same) is)
    where
      go : (i : ℕ) → i < length (z ∷ zs) → slice_index_or (z ∷ zs) i x ≡ x → ((j : ℕ) → j < length zs → slice_index_or zs j x ≡ x → Contains (filter_map choose zs) y)
          → Contains (filter_map choose (z ∷ zs)) y
      go zero within same later = first_of_all (choose z) (filter_map choose zs) y (ap choose same ∙ is)
      go (suc i) within same later = in_more (choose z) (filter_map choose zs) y (later i (omega (arith, within)) same)

  pub chosen_all : (Q : Y → Type 0) (xs : List X) → All (λ x. (y : Y) → choose x ≡ Some y → Q y) xs → All Q (filter_map choose xs)
  chosen_all Q [] all = All-nil Q
  chosen_all Q (x ∷ xs) all = go (choose x) refl (chosen_all Q xs (All-tail (λ z. (y : Y) → choose z ≡ Some y → Q y) x xs all))
    where
      go : (o : Option Y) → choose x ≡ o → All Q (filter_map choose xs) → All Q (cons_option o (filter_map choose xs))
      go None is more = more
      go (Some y) is more = All-cons Q y (filter_map choose xs) (All-head (λ z. (w : Y) → choose z ≡ Some w → Q w) x xs all y is) more

pub every_all : {X : Type 0} (P : X → Type 0) (xs : List X) → Every P xs → All P xs
every_all P [] every = All-nil P
every_all P (x ∷ xs) every = All-cons P x xs every.0 (every_all P xs every.1)

-- ---- the first name

module _ {X : Type 0} (name : X → Option (List ℕ)) (xs : List X) where
  -- it is what all give that give one
  pub first_is : (o : Option (List ℕ)) → All (λ q. (x : List ℕ) → name q ≡ Some x → o ≡ Some x) xs → ((x : List ℕ) → o ≡ Some x → Contains (filter_map name xs) x) → o ≡ first_name name xs
  first_is o given has = go o (filter_map name xs) (chosen_all name (λ x. o ≡ Some x) xs given) has
    where
      go : (w : Option (List ℕ)) (names : List (List ℕ)) → All (λ x. w ≡ Some x) names → ((x : List ℕ) → w ≡ Some x → Contains names x) → w ≡ slice_get names 0
      go None [] all has = refl
      go (Some x) [] all has = let within = (has x refl).1 in absurd (omega (arith, within))
      go w (y ∷ ys) all has = All-head (λ x. w ≡ Some x) y ys all

  pub first_given : (Q : List ℕ → Type 0) → All (λ q. (x : List ℕ) → name q ≡ Some x → Q x) xs → (x : List ℕ) → first_name name xs ≡ Some x → Q x
  first_given Q given x is = go (filter_map name xs) (chosen_all name Q xs given) is
    where
      go : (names : List (List ℕ)) → All Q names → slice_get names 0 ≡ Some x → Q x
      go [] all is = absurd (let no : ⊥ = cc in no)
      go (y ∷ ys) all is = subst Q (some-injective y x is) (All-head Q y ys all)

-- ---- each name once

among_seen : (seen names : List (List ℕ)) (x : List ℕ) → Contains names x → (one_of seen x ≡ true) ⊎ Contains (distinct_by seen names) x
among_seen seen [] x c = let within = c.1 in absurd (omega (arith, within))
among_seen seen (y ∷ ys) x c =
    go c.0 c.1 c.2 (one_of seen y) refl (λ i within same. among_seen seen ys x (i, within, same)) (λ i within same. among_seen (y ∷ seen) ys x (i, within, same))
  where
    go : (i : ℕ) → i < length (y ∷ ys) → slice_index_or (y ∷ ys) i x ≡ x → (b : Bool) → one_of seen y ≡ b
        → ((j : ℕ) → j < length ys → slice_index_or ys j x ≡ x → (one_of seen x ≡ true) ⊎ Contains (distinct_by seen ys) x)
        → ((j : ℕ) → j < length ys → slice_index_or ys j x ≡ x → (one_of (y ∷ seen) x ≡ true) ⊎ Contains (distinct_by (y ∷ seen) ys) x)
        → (one_of seen x ≡ true) ⊎ Contains (if b then distinct_by seen ys else y ∷ distinct_by (y ∷ seen) ys) x
    go zero within same true is later more = inl (ap (one_of seen) (sym same) ∙ is)
    go zero within same false is later more = inr (0, omega arith, same)
    go (suc i) within same true is later more = later i (omega (arith, within)) same
    go (suc i) within same false is later more =
        elim (more i (omega (arith, within)) same) [
          | inl met ↦
              elim (or_cases (bytes_eq y x) (one_of seen x) met) [
                | inl it ↦ inr (0, omega arith, (bytes_eq-Decides y x).0 it)
                | inr old ↦ inl old
              ]
          | inr has ↦ inr (Contains-append_right (y ∷ []) (distinct_by (y ∷ seen) ys) x has)
        ]

pub distinct_has : (names : List (List ℕ)) (x : List ℕ) → Contains names x → Contains (distinct names) x
distinct_has names x c =
    elim (among_seen [] names x c) [
      | inl met ↦ absurd (false≢true met)
      | inr has ↦ has
    ]
