-- Looking up the n-th of lists of nodes.
use Rattle.std.proofs.Common.{◌≡◌, ℕ, zero, suc, ◌+◌, ◌<◌, ◌≤◌, List, [], ◌∷◌, ◌++◌, length, drop, map, Some, None, refl, sym, ap, ◌∙◌, arith}
use Rattle.std.specs.Prelude.{get_or}
use Rattle.std.proofs.lemmas.List.{at_drop_more, drop_all}
use Rattle.std.proofs.lemmas.List.{append-nil}
use Rattle.meson_syntax.specs.Paths.{nth}
use Rattle.meson_syntax.specs.inside.Children.{Found, found, left, look, option_of}

-- what is left behind the first nodes looks in the others
abbrev pub then_look : {X : Type 0} → Found X → List X → Found X
then_look (found x) ys = found x
then_look (left n) ys = look ys n

pub look-append : {X : Type 0} (xs ys : List X) (n : ℕ) → look (xs ++ ys) n ≡ then_look (look xs n) ys
look-append [] ys n = refl
look-append (x ∷ xs) ys zero = refl
look-append (x ∷ xs) ys (suc n) = look-append xs ys n

-- one of the first nodes, and one of the others
pub among-first : {X : Type 0} (xs ys : List X) (n : ℕ) (x : X) → found x ≡ look xs n → found x ≡ look (xs ++ ys) n
among-first xs ys n x h = ap (λ f. then_look f ys) h ∙ sym (look-append xs ys n)

pub among-others : {X : Type 0} (xs ys : List X) (n m : ℕ) (f : Found X) → left m ≡ look xs n → f ≡ look ys m → f ≡ look (xs ++ ys) n
among-others xs ys n m f h g = g ∙ ap (λ f. then_look f ys) h ∙ sym (look-append xs ys n)

pub none-others : {X : Type 0} (xs : List X) (n m : ℕ) → left m ≡ look xs n → left m ≡ look (xs ++ []) n
none-others xs n m h = h ∙ ap (λ l. look l n) (sym (append-nil xs))

-- ---- elements of a list, each of which has some nodes, looked at one after another

module _ {A X : Type 0} (parts : A → List X) (all : List A → List X) (step : (a : A) (more : List A) → all (a ∷ more) ≡ parts a ++ all more) where
  turn : (xs : List A) (i : ℕ) (d : A) (n : ℕ) → i < length xs → look (all (drop i xs)) n ≡ then_look (look (parts (get_or xs i d)) n) (all (drop (i + 1) xs))
  turn xs i d n small =
      at_drop_more (λ ys. look (all ys) n) xs i d small ∙ ap (λ l. look l n) (step (get_or xs i d) (drop (i + 1) xs)) ∙ look-append (parts (get_or xs i d)) (all (drop (i + 1) xs)) n

  -- it is one of an element's
  pub look-here : (xs : List A) (i : ℕ) (d : A) (n : ℕ) (x : X) (whole : Found X) → i < length xs → found x ≡ look (parts (get_or xs i d)) n → look (all (drop i xs)) n ≡ whole → found x ≡ whole
  look-here xs i d n x whole small here so_far = ap (λ f. then_look f (all (drop (i + 1) xs))) here ∙ sym (turn xs i d n small) ∙ so_far

  -- or stands behind them
  pub look-past : (xs : List A) (i : ℕ) (d : A) (n m : ℕ) (whole : Found X) → i < length xs → left m ≡ look (parts (get_or xs i d)) n → look (all (drop i xs)) n ≡ whole → look (all (drop (i + 1) xs)) m ≡ whole
  look-past xs i d n m whole small here so_far = ap (λ f. then_look f (all (drop (i + 1) xs))) here ∙ sym (turn xs i d n small) ∙ so_far

  pub look-end : (xs : List A) (i n : ℕ) (whole : Found X) → all [] ≡ [] → length xs ≤ i → look (all (drop i xs)) n ≡ whole → left n ≡ whole
  look-end xs i n whole none past so_far = sym (ap (λ l. look l n) none) ∙ ap (λ ys. look (all ys) n) (sym (drop_all i xs past)) ∙ so_far

-- ---- as an option

pub look-nth : {X : Type 0} (xs : List X) (n : ℕ) → option_of (look xs n) ≡ nth xs n
look-nth [] n = refl
look-nth (x ∷ xs) zero = refl
look-nth (x ∷ xs) (suc n) = look-nth xs n

-- ---- elements each of which is one node

pub nth-here : {A B : Type 0} (f : A → B) (xs : List A) (n : ℕ) (d : A) → n < length xs → nth (map f xs) n ≡ Some (f (get_or xs n d))
nth-here f [] n d h = absurd (omega arith)
nth-here f (x ∷ xs) zero d h = refl
nth-here f (x ∷ xs) (suc n) d h = nth-here f xs n d (omega arith)

pub nth-past : {A B : Type 0} (f : A → B) (xs : List A) (n : ℕ) → length xs ≤ n → nth (map f xs) n ≡ None
nth-past f [] n h = refl
nth-past f (x ∷ xs) zero h = absurd (omega arith)
nth-past f (x ∷ xs) (suc n) h = nth-past f xs n (omega arith)
