-- Lists with another value in one place.
use Rattle.meson_steps.proofs.Words.{All, None, option_map, slice_set, ◌≡◌, ℕ, zero, suc, ◌<◌, List, [], ◌∷◌, length, get_or, Option, Some, refl, sym, ap, ◌∙◌}
use Rattle.meson_steps.proofs.Words.{subst, arith, get_or-set_same, length-set, All-head, All-tail, nth, some-injective, map-some, changed_at}

-- ---- what stands at a number

module _ {X : Type 0} where
  pub change_there : (change : X → Option X) (xs : List X) (i : ℕ) (x y : X) → nth xs i ≡ Some x → change x ≡ Some y → changed_at i change xs ≡ Some (slice_set xs i y)
  change_there change [] i x y here is = absurd cc
  change_there change (z ∷ xs) zero x y here is = ap (option_map (λ w. w ∷ xs)) (ap change (some-injective z x here) ∙ is)
  change_there change (z ∷ xs) (suc i) x y here is = ap (option_map (λ zs. z ∷ zs)) (change_there change xs i x y here is)

  pub changed_there : (xs : List X) (i : ℕ) (x y : X) → nth xs i ≡ Some x → nth (slice_set xs i y) i ≡ Some y
  changed_there [] i x y here = absurd cc
  changed_there (z ∷ xs) zero x y here = refl
  changed_there (z ∷ xs) (suc i) x y here = changed_there xs i x y here

  pub all_nth : (P : X → Type 0) (xs : List X) (i : ℕ) (x : X) → All P xs → nth xs i ≡ Some x → P x
  all_nth P [] i x all here = absurd cc
  all_nth P (z ∷ xs) zero x all here = subst P (some-injective z x here) (All-head P z xs all)
  all_nth P (z ∷ xs) (suc i) x all here = all_nth P xs i x (All-tail P z xs all) here

  pub all_at : (P : X → Type 0) (xs : List X) (i : ℕ) (y : X) → i < length xs → All P (slice_set xs i y) → P y
  all_at P xs i y within all = let there : i < length (slice_set xs i y) = omega (arith, length-set xs i y, within) in subst P (get_or-set_same xs i y y within) (all i y there)

-- ---- a value that a change makes

pub record ChangedAt {X : Type 0} (change : X → Option X) (i : ℕ) (xs ys : List X) : Type 0 where
  pub within : i < length xs
  pub new : X
  pub is : (d : X) → change (get_or xs i d) ≡ Some new
  pub are : ys ≡ slice_set xs i new

module _ {X : Type 0} (change : X → Option X) where
  first_changed : (x : X) (xs ys : List X) (o : Option X) → change x ≡ o → option_map (λ y. y ∷ xs) o ≡ Some ys → ChangedAt change zero (x ∷ xs) ys
  first_changed x xs ys (Some y) is done = record { within = omega arith; new = y; is = λ d. is; are = cc }
  first_changed x xs ys None is done = absurd cc

  later_changed : (x : X) (xs ys : List X) (i : ℕ) (o : Option (List X)) → ((zs : List X) → o ≡ Some zs → ChangedAt change i xs zs) → option_map (λ zs. x ∷ zs) o ≡ Some ys → ChangedAt change (suc i) (x ∷ xs) ys
  later_changed x xs ys i (Some zs) from done =
      let r = from zs refl in
      let below = r.within in
      let same : x ∷ zs ≡ ys = cc in
      record { within = omega (arith, below); new = r.new; is = r.is; are = sym same ∙ ap (λ l. x ∷ l) r.are }
  later_changed x xs ys i None from done = absurd cc

  pub changed_from : (xs ys : List X) (i : ℕ) → changed_at i change xs ≡ Some ys → ChangedAt change i xs ys
  changed_from [] ys i is = absurd cc
  changed_from (x ∷ xs) ys zero is = first_changed x xs ys (change x) refl is
  changed_from (x ∷ xs) ys (suc i) is = later_changed x xs ys i (changed_at i change xs) (λ zs here. changed_from xs zs i here) is

-- ---- a change in one place, by what it leaves

pub record ChangeMade {X : Type 0} (i : ℕ) (change : X → Option X) (xs ys : List X) : Type 0 where
  pub old : X
  pub was : nth xs i ≡ Some old
  pub new : X
  pub is : change old ≡ Some new
  pub now : nth ys i ≡ Some new
  pub others : (k : ℕ) → (i ≡ k → ⊥) → nth ys k ≡ nth xs k

module _ {X : Type 0} where
  behind_first : (x y : X) (xs ys : List X) → y ∷ xs ≡ ys → (k : ℕ) → (zero ≡ k → ⊥) → nth ys k ≡ nth (x ∷ xs) k
  behind_first x y xs ys same zero other = absurd (other refl)
  behind_first x y xs ys same (suc k) other = ap (λ l. nth l (suc k)) (sym same)

  behind_one : (x : X) (xs zs ys : List X) (i : ℕ) → x ∷ zs ≡ ys → ((k : ℕ) → (i ≡ k → ⊥) → nth zs k ≡ nth xs k) → (k : ℕ) → (suc i ≡ k → ⊥) → nth ys k ≡ nth (x ∷ xs) k
  behind_one x xs zs ys i same others zero other = ap (λ l. nth l 0) (sym same)
  behind_one x xs zs ys i same others (suc k) other = ap (λ l. nth l (suc k)) (sym same) ∙ others k (λ equal. other (ap suc equal))

  pub change_made : (i : ℕ) (change : X → Option X) (xs ys : List X) → changed_at i change xs ≡ Some ys → ChangeMade i change xs ys
  change_made i change [] ys made = absurd cc
  change_made zero change (x ∷ xs) ys made =
      let o = map-some (λ y. y ∷ xs) (change x) ys made in
      record { old = x; was = refl; new = o.0; is = o.1; now = ap (λ l. nth l 0) (sym o.2); others = behind_first x o.0 xs ys o.2 }
  change_made (suc i) change (x ∷ xs) ys made =
      let o = map-some (λ l. x ∷ l) (changed_at i change xs) ys made in
      let c = change_made i change xs o.0 o.1 in
      record { old = c.old; was = c.was; new = c.new; is = c.is; now = ap (λ l. nth l (suc i)) (sym o.2) ∙ c.now; others = behind_one x xs o.0 ys i o.2 c.others }
