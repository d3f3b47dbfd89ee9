-- What is chosen of the parts that are searched is what is searched of all that is chosen, and it is in the file that is searched.
use Rattle.meson_calls.proofs.Words.{cons_option, option_map, filter, if◌then◌else◌, ◌==◌, ◌≡◌, ℕ, List, [], ◌∷◌, map, Bool, true, false, Option, Some, None}
use Rattle.meson_calls.proofs.Words.{refl, sym, ap, ◌∙◌, eqb-true, Every, all_chosen, value_of_assignment}
use Rattle.meson_calls.proofs.Words.{Placed, placed, within}

-- ---- what is chosen

module _ {X Y : Type 0} (f : X → Option Y) (n : ℕ) where
  abbrev kept : List (Placed X) → List (Placed X)
  kept xs = filter (λ x. x.place.file == n) xs

  none_or_one : (q : Placed X) (xs : List (Placed X)) (o : Option Y) → f q.it ≡ o → filter (λ y. y.place.file == n) (all_chosen f xs) ≡ all_chosen f (kept xs)
      → filter (λ y. y.place.file == n) (cons_option (option_map (placed q.place) o) (all_chosen f xs)) ≡ all_chosen f (kept (q ∷ xs))
  none_or_one q xs None is rest = rest ∙ go (q.place.file == n)
    where
      go : (b : Bool) → all_chosen f (kept xs) ≡ all_chosen f (if b then q ∷ kept xs else kept xs)
      go true = sym (ap (λ o. cons_option (option_map (placed q.place) o) (all_chosen f (kept xs))) is)
      go false = refl
  none_or_one q xs (Some y) is rest = go (q.place.file == n)
    where
      go : (b : Bool) → (if b then placed q.place y ∷ filter (λ z. z.place.file == n) (all_chosen f xs) else filter (λ z. z.place.file == n) (all_chosen f xs))
          ≡ all_chosen f (if b then q ∷ kept xs else kept xs)
      go true = ap (λ l. placed q.place y ∷ l) rest ∙ sym (ap (λ o. cons_option (option_map (placed q.place) o) (all_chosen f (kept xs))) is)
      go false = rest

  chosen_kept : (xs : List (Placed X)) → filter (λ y. y.place.file == n) (all_chosen f xs) ≡ all_chosen f (kept xs)
  chosen_kept [] = refl
  chosen_kept (q ∷ xs) = none_or_one q xs (f q.it) refl (chosen_kept xs)

pub within_chosen : {X Y : Type 0} (w : Option ℕ) (f : X → Option Y) (xs : List (Placed X)) → within w (all_chosen f xs) ≡ all_chosen f (within w xs)
within_chosen None f xs = refl
within_chosen (Some n) f xs = chosen_kept f n xs

-- where places stay in their files
module _ {X Y : Type 0} (h : Placed X → Placed Y) (stays : (q : Placed X) → (h q).place.file ≡ q.place.file) where
  mapped_kept : (n : ℕ) (xs : List (Placed X)) → within (Some n) (map h xs) ≡ map h (within (Some n) xs)
  mapped_kept n [] = refl
  mapped_kept n (q ∷ xs) = ap (λ m. if m == n then h q ∷ within (Some n) (map h xs) else within (Some n) (map h xs)) (stays q) ∙ go (q.place.file == n) (mapped_kept n xs)
    where
      go : (b : Bool) → within (Some n) (map h xs) ≡ map h (within (Some n) xs)
          → (if b then h q ∷ within (Some n) (map h xs) else within (Some n) (map h xs)) ≡ map h (if b then q ∷ within (Some n) xs else within (Some n) xs)
      go true rest = ap (λ l. h q ∷ l) rest
      go false rest = rest

  pub within_mapped : (w : Option ℕ) (xs : List (Placed X)) → within w (map h xs) ≡ map h (within w xs)
  within_mapped None xs = refl
  within_mapped (Some n) xs = mapped_kept n xs

pub within_moved : {X : Type 0} (w : Option ℕ) (xs : List (Placed X)) → within w (map value_of_assignment xs) ≡ map value_of_assignment (within w xs)
within_moved w xs = within_mapped value_of_assignment (λ q. refl) w xs

-- ---- each of what is searched

pub every_within : {X : Type 0} (P : Placed X → Type 0) (w : Option ℕ) (xs : List (Placed X)) → Every P xs → Every P (within w xs)
every_within P None xs all = all
every_within P (Some n) [] all = tt
every_within {X} P (Some n) (x ∷ xs) all = go (x.place.file == n) (every_within P (Some n) xs all.1)
  where
    go : (b : Bool) → Every P (within (Some n) xs) → Every P (if b then x ∷ within (Some n) xs else within (Some n) xs)
    go true rest = (all.0, rest)
    go false rest = rest

-- what is searched in one file is in that file
pub all_in_file : {X : Type 0} (n : ℕ) (xs : List (Placed X)) → Every (λ (x : Placed X). x.place.file ≡ n) (within (Some n) xs)
all_in_file n [] = tt
all_in_file {X} n (x ∷ xs) = go (x.place.file == n) refl (all_in_file n xs)
  where
    go : (b : Bool) → (x.place.file == n) ≡ b → Every (λ (y : Placed X). y.place.file ≡ n) (within (Some n) xs) → Every (λ (y : Placed X). y.place.file ≡ n) (if b then x ∷ within (Some n) xs else within (Some n) xs)
    go true is rest = (eqb-true x.place.file n is, rest)
    go false is rest = rest
