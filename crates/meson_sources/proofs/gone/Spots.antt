-- Spots that are the same or differ, and lists without some of their elements.
use Rattle.std.specs.Cmp.Lexicographic.{pointwise}
use Rattle.meson_sources.proofs.Words.{AllPairs, if◌then◌else◌, nat_eq, ⊤, ◌&&◌, ◌||◌, [], ap, ap₂, arith, Bool, false, get_or, length, List, refl, suc, sym}
use Rattle.meson_sources.proofs.Words.{true, zero, ℕ, ◌++◌, ◌<◌, ◌∙◌, ◌∷◌, ◌≡◌, eq-eqb, eqb-true, Every, every-append, place, same_spot, is_path, Spot, but}
use Rattle.meson_sources.proofs.trees.Elements.{without}

-- ==== What holds of each element of a list and each later one.

module _ {X : Type 0} (R : X → X → Type 0) where
  abbrev pub Pairwise : List X → Type 0
  Pairwise [] = ⊤
  Pairwise (x ∷ xs) = Every (R x) xs × Pairwise xs

  pub pairwise_append : (xs ys : List X) → Pairwise xs → Pairwise ys → Every (λ x. Every (R x) ys) xs → Pairwise (xs ++ ys)
  pairwise_append [] ys one other across = other
  pairwise_append (x ∷ xs) ys one other across = (every-append (R x) xs ys one.0 across.0, pairwise_append xs ys one.1 other across.1)

  -- by their numbers
  one_later : (x : X) (xs : List X) → Every (R x) xs → (n : ℕ) (d : X) → n < length xs → R x (get_or xs n d)
  one_later x [] all n d within = absurd (omega (arith, within))
  one_later x (y ∷ ys) all zero d within = all.0
  one_later x (y ∷ ys) all (suc n) d within = let less : n < length ys = omega (arith, within) in one_later x ys all.1 n d less

  pub all_pairs : (xs : List X) → Pairwise xs → AllPairs R xs
  all_pairs [] all i j d before within = absurd (omega (arith, within))
  all_pairs (x ∷ xs) all i zero d before within = absurd (omega (arith, before))
  all_pairs (x ∷ xs) all zero (suc j) d before within = let less : j < length xs = omega (arith, within) in one_later x xs all.0 j d less
  all_pairs (x ∷ xs) all (suc i) (suc j) d before within =
      let order : i < j = omega (arith, before) in
      let less : j < length xs = omega (arith, within) in
      all_pairs xs all.1 i j d order less

-- ==== Spots that are not the same.

abbrev pub Apart : Spot → Spot → Type 0
Apart s t = (s.list.file ≡ t.list.file) × (s.list.path.steps ≡ t.list.path.steps) × (s.number ≡ t.number) → ⊥

-- each is another one than those behind it
abbrev pub AreApart : List Spot → Type 0
AreApart = Pairwise Apart

-- ==== Paths that are the same.

pub path_itself : (list : List ℕ) → is_path list list ≡ true
path_itself [] = refl
path_itself (m ∷ list) = ap (λ b. b && is_path list list) (eq-eqb m m refl) ∙ path_itself list

both_same : (m n : ℕ) (list path : List ℕ) → (is_path list path ≡ true → list ≡ path) → (b : Bool) → nat_eq m n ≡ b → (b && is_path list path) ≡ true → m ∷ list ≡ n ∷ path
both_same m n list path rest true same is = ap (λ k. k ∷ list) (eqb-true m n same) ∙ ap (λ ys. n ∷ ys) (rest is)
both_same m n list path rest false same is = absurd cc

pub same_paths : (list path : List ℕ) → is_path list path ≡ true → list ≡ path
same_paths [] [] is = refl
same_paths [] (n ∷ path) is = absurd cc
same_paths (m ∷ list) [] is = absurd cc
same_paths (m ∷ list) (n ∷ path) is = both_same m n list path (same_paths list path) (nat_eq m n) refl is

-- the test of lists is that of paths
pub pointwise_is : (list path : List ℕ) → pointwise nat_eq list path ≡ is_path list path
pointwise_is [] [] = refl
pointwise_is [] (n ∷ path) = refl
pointwise_is (m ∷ list) [] = refl
pointwise_is (m ∷ list) (n ∷ path) = ap (λ b. nat_eq m n && b) (pointwise_is list path)

-- ==== Lists without some of their elements, by their numbers; and spots that are the same.

-- ---- lists without some of their elements

module _ {X : Type 0} where
  abbrev pub kept_by : Bool → X → List X → List X
  kept_by b x l = if b then l else x ∷ l

  pub but_none : (f : ℕ → Bool) → ((n : ℕ) → f n ≡ false) → (xs : List X) → but f xs ≡ xs
  but_none f none [] = refl
  but_none f none (x ∷ xs) = ap (λ b. kept_by b x (but (λ n. f (suc n)) xs)) (none 0) ∙ ap (λ l. x ∷ l) (but_none (λ n. f (suc n)) (λ n. none (suc n)) xs)

  -- one alone
  pub but_one : (k : ℕ) (f : ℕ → Bool) → f k ≡ true → ((n : ℕ) → (k ≡ n → ⊥) → f n ≡ false) → (xs : List X) → but f xs ≡ without k xs
  but_one zero f gone others [] = refl
  but_one (suc k) f gone others [] = refl
  but_one zero f gone others (x ∷ xs) = ap (λ b. kept_by b x (but (λ n. f (suc n)) xs)) gone ∙ but_none (λ n. f (suc n)) (λ n. others (suc n) (λ same. absurd (omega (arith, same)))) xs
  but_one (suc k) f gone others (x ∷ xs) =
      ap (λ b. kept_by b x (but (λ n. f (suc n)) xs)) (others 0 (λ same. absurd (omega (arith, same))))
      ∙ ap (λ l. x ∷ l) (but_one k (λ n. f (suc n)) gone (λ n other. others (suc n) (λ same. other (omega (arith, same)))) xs)

-- ---- spots that are the same

pub spot_itself : (s : Spot) → same_spot s s ≡ true
spot_itself s =
    ap (λ b. b && (is_path s.list.path.steps s.list.path.steps && nat_eq s.number s.number)) (eq-eqb s.list.file s.list.file refl)
    ∙ ap (λ b. b && nat_eq s.number s.number) (path_itself s.list.path.steps) ∙ eq-eqb s.number s.number refl

pub or_with_none : (b : Bool) → (b || false) ≡ b
or_with_none true = refl
or_with_none false = refl

pub both_true : (b c : Bool) → (b && c) ≡ true → (b ≡ true) × (c ≡ true)
both_true true c is = (refl, is)
both_true false c is = absurd cc

pub same_one : (s t : Spot) → same_spot s t ≡ true → s ≡ t
same_one s t is =
    let a = both_true (nat_eq s.list.file t.list.file) (is_path s.list.path.steps t.list.path.steps && nat_eq s.number t.number) is in
    let b = both_true (is_path s.list.path.steps t.list.path.steps) (nat_eq s.number t.number) a.1 in
    ap (λ f. record { list = place f s.list.path.steps; number = s.number }) (eqb-true s.list.file t.list.file a.0)
    ∙ ap (λ p. record { list = place t.list.file p; number = s.number }) (same_paths s.list.path.steps t.list.path.steps b.0)
    ∙ ap (λ n. record { list = t.list; number = n }) (eqb-true s.number t.number b.1)

pub apart_not_same : (s t : Spot) → Apart s t → same_spot s t ≡ false
apart_not_same s t apart = by (same_spot s t) refl where
  by : (b : Bool) → same_spot s t ≡ b → b ≡ false
  by true is = let same = same_one s t is in absurd (apart (ap (λ (u : Spot). u.list.file) same, ap (λ (u : Spot). u.list.path.steps) same, ap (λ (u : Spot). u.number) same))
  by false is = refl

pub apart_of : (s t : Spot) → same_spot t s ≡ false → Apart s t
apart_of s t not_same = λ same.
    let one : s ≡ t = ap₂ (λ list n. record { list = list; number = n }) (ap₂ place same.0 same.1) same.2 in
    let both : true ≡ false = sym (spot_itself t) ∙ ap (same_spot t) (sym one) ∙ not_same in
    cc
