-- Lists put among the children of a tree.
use Rattle.std.proofs.Common.{◌≡◌, ℕ, zero, suc, ◌+◌, ◌-◌, ◌<◌, ◌≤◌, List, [], ◌∷◌, ◌++◌, length, get_or, slice_set, refl, sym, ap, ◌∙◌, arith}
use Rattle.meson_lex.specs.Significant.{Word}
use Rattle.meson_syntax.specs.Tree.{Listing, Expression}
use Rattle.meson_syntax.specs.Paths.{Hole, all_around, expression_in}
use Rattle.meson_values.specs.LendsItems.{with_all}
use Rattle.meson_syntax.specs.inside.Children.{Found, found, left, look}
use Rattle.meson_syntax.specs.inside.Putting.{put_among, ahead, only_child}

-- the answer in a part, with the part in its place
abbrev pub made : {S T U : Type 0} → (T → U) → Listing S × T → Listing S × U
made make q = (q.0, make q.1)

module _ {S : Type 0} (path : List ℕ) (new : Listing S) where
  -- ---- holes around a part

  pub put-around : {T U : Type 0} (before behind : List Word) (make : T → U) (x : T) (hs : List (Hole S T)) (n : ℕ)
      → put_among path new (make x) (all_around before behind make hs) n ≡ made make (put_among path new x hs n)
  put-around before behind make x [] n = refl
  put-around before behind make x (h ∷ hs) zero = refl
  put-around before behind make x (h ∷ hs) (suc n) = put-around before behind make x hs n

  -- among the first, and among the others
  pub put-first : {T U : Type 0} (before behind : List Word) (make : T → U) (x : T) (y : U) (hs : List (Hole S T)) (gs : List (Hole S U)) (k : ℕ)
      → k < length hs
      → put_among path new y (all_around before behind make hs ++ gs) k ≡ made make (put_among path new x hs k)
  put-first before behind make x y [] gs k small = absurd (omega arith)
  put-first before behind make x y (h ∷ hs) gs zero small = refl
  put-first before behind make x y (h ∷ hs) gs (suc k) small = put-first before behind make x y hs gs k (omega arith)

  pub put-later : {T U : Type 0} (before behind : List Word) (make : T → U) (y : U) (hs : List (Hole S T)) (gs : List (Hole S U)) (n m : ℕ) → n ≡ length hs + m
      → put_among path new y (all_around before behind make hs ++ gs) n ≡ put_among path new y gs m
  put-later before behind make y [] gs n m is = let same : n ≡ m = omega arith in ap (put_among path new y gs) same
  put-later before behind make y (h ∷ hs) gs zero m is = absurd (omega arith)
  put-later before behind make y (h ∷ hs) gs (suc n) m is = put-later before behind make y hs gs n m (omega arith)

  pub put-past-holes : (U : Type 0) (y : U) (hs gs : List (Hole S U)) (n : ℕ) → length hs ≤ n → put_among path new y (hs ++ gs) n
      ≡ put_among path new y gs (n - length hs)
  put-past-holes U y [] gs n past = let same : n ≡ n - length {A = Hole S U} [] = omega arith in ap (put_among path new y gs) same
  put-past-holes U y (h ∷ hs) gs zero past = absurd (omega arith)
  put-past-holes U y (h ∷ hs) gs (suc n) past =
      let same : n - length hs ≡ suc n - length (h ∷ hs) = omega arith in
      put-past-holes U y hs gs n (omega arith) ∙ ap (put_among path new y gs) same

  -- one expression
  pub put-only : {T : Type 0} (before behind : List Word) (make : Expression S → T) (e : Expression S) (n : ℕ)
      → put_among path new (make e) (expression_in before e behind make ∷ []) n ≡ made make (put_among path new e (only_child e) n)
  put-only before behind make e zero = refl
  put-only before behind make e (suc n) = refl

-- ---- elements of a list

module _ {A S V T P : Type 0} (one : A → V) (count : V → ℕ) (parts : V → List (Hole S V)) (all : List A → T) (cons : V → T → T)
    (children : P → T → List (Hole S T)) (next : P → P) (path : List ℕ) (new : Listing S)
    (step : (a : A) (more : List A) → all (a ∷ more) ≡ cons (one a) (all more))
    (first : (p : P) (v : V) (t : T) (k : ℕ) → k < count v → put_among path new (cons v t) (children p (cons v t)) k
    ≡ made (λ x. cons x t) (put_among path new v (parts v) k))
    (later : (p : P) (v : V) (t : T) (n m : ℕ) → n ≡ count v + m → put_among path new (cons v t) (children p (cons v t)) n
    ≡ made (cons v) (put_among path new t (children (next p) t) m))
    (none : (p : P) (n : ℕ) → put_among path new (all []) (children p (all [])) n ≡ (new, all [])) where
  here : P → T → ℕ → Listing S × T
  here p t n = put_among path new t (children p t) n

  pub put-at : (p : P) (xs : List A) (i k n : ℕ) (d y : A) (l : Listing S) → n ≡ ahead (λ a. count (one a)) xs i + k → i < length xs
      → k < count (one (get_or xs i d))
      → (l, one y) ≡ put_among path new (one (get_or xs i d)) (parts (one (get_or xs i d))) k
      → (l, all (slice_set xs i y)) ≡ put_among path new (all xs) (children p (all xs)) n
  unfolding here
  put-at p [] i k n d y l number small inside is = absurd (omega arith)
  put-at p (x ∷ xs) zero k n d y l number small inside is =
      let same : n ≡ k = omega arith in
      ap (λ t. (l, t)) (step y xs) ∙ ap (made (λ v. cons v (all xs))) is ∙ sym (first p (one x) (all xs) k inside)
      ∙ ap (λ t. here p t k) (sym (step x xs)) ∙ ap (here p (all (x ∷ xs))) (sym same)
  put-at p (x ∷ xs) (suc i) k n d y l number small inside is =
      let m = ahead (λ a. count (one a)) xs i + k in
      let there : n ≡ count (one x) + m = omega arith in
      ap (λ t. (l, t)) (step x (slice_set xs i y)) ∙ ap (made (cons (one x))) (put-at (next p) xs i k m d y l refl (omega arith) inside is)
      ∙ sym (later p (one x) (all xs) n m there) ∙ ap (λ t. here p t n) (sym (step x xs))

  pub put-past : (p : P) (xs : List A) (k n : ℕ) → n ≡ ahead (λ a. count (one a)) xs (length xs) + k → (new, all xs)
      ≡ put_among path new (all xs) (children p (all xs)) n
  unfolding here
  put-past p [] k n number = sym (none p n)
  put-past p (x ∷ xs) k n number =
      let m = ahead (λ a. count (one a)) xs (length xs) + k in
      let there : n ≡ count (one x) + m = omega arith in
      ap (λ t. (new, t)) (step x xs) ∙ ap (made (cons (one x))) (put-past (next p) xs k m refl)
      ∙ sym (later p (one x) (all xs) n m there) ∙ ap (λ t. here p t n) (sym (step x xs))

-- ---- parts counted on

pub ahead-more : {A : Type 0} (count : A → ℕ) (xs : List A) (i j : ℕ) (d : A) → i < length xs → j ≡ i + 1 → ahead count xs j
    ≡ ahead count xs i + count (get_or xs i d)
ahead-more count [] i j d small is = absurd (omega arith)
ahead-more count (x ∷ xs) i zero d small is = absurd (omega arith)
ahead-more count (x ∷ xs) zero (suc j) d small is = let at_zero : j ≡ 0 = omega arith in let none = ap (ahead count xs) at_zero in omega (arith, none)
ahead-more count (x ∷ xs) (suc i) (suc j) d small is = let h = ahead-more count xs i j d (omega arith) (omega arith) in omega (arith, h)

pub ahead-past : {A : Type 0} (count : A → ℕ) (xs : List A) (i : ℕ) → length xs ≤ i → ahead count xs i ≡ ahead count xs (length xs)
ahead-past count [] zero past = refl
ahead-past count [] (suc i) past = refl
ahead-past count (x ∷ xs) zero past = absurd (omega arith)
ahead-past count (x ∷ xs) (suc i) past = ap (λ n. count x + n) (ahead-past count xs i (omega arith))

pub look-found : {X : Type 0} (xs : List X) (n : ℕ) (x : X) → found x ≡ look xs n → n < length xs
look-found [] n x h = absurd cc
look-found (y ∷ xs) zero x h = omega arith
look-found (y ∷ xs) (suc n) x h = let small = look-found xs n x h in omega (arith, small)

left-injective : {X : Type 0} (m n : ℕ) → ◌≡◌ {A = Found X} (left m) (left n) → m ≡ n
left-injective m n e = cc

pub look-left : {X : Type 0} (xs : List X) (n m : ℕ) → left m ≡ look xs n → n ≡ length xs + m
look-left {X} [] n m h = let same = left-injective {X = X} m n h in omega (arith, same)
look-left (y ∷ xs) zero m h = absurd cc
look-left (y ∷ xs) (suc n) m h = let more = look-left xs n m h in omega (arith, more)

-- a list whose elements are all lent
pub with-all : {A : Type 0} (xs ys : List A) → length ys ≡ length xs → with_all xs ys ≡ ys
with-all [] [] e = refl
with-all [] (y ∷ ys) e = absurd (omega arith)
with-all (x ∷ xs) [] e = absurd (omega arith)
with-all (x ∷ xs) (y ∷ ys) e = ap (λ zs. y ∷ zs) (with-all xs ys (omega arith))
