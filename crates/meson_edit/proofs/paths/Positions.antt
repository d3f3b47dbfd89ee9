-- Holes by their numbers: what stands in a list at a number, and stays there when another node is put into a hole.
use Rattle.meson_edit.proofs.Words.{⊤, option_map, ◌≡◌, ℕ, zero, suc, ◌+◌, List, [], ◌∷◌, ◌++◌, map, length, Some, refl, ap, sym, subst, ◌∙◌, arith, Word, Node}
use Rattle.meson_edit.proofs.Words.{Hole, around, all_around, nth, some-injective}

-- ---- lists

nth-first : {A : Type 0} (xs ys : List A) (n : ℕ) (x : A) → nth xs n ≡ Some x → nth (xs ++ ys) n ≡ Some x
nth-first [] ys n x is = absurd cc
nth-first (z ∷ zs) ys zero x is = is
nth-first (z ∷ zs) ys (suc n) x is = nth-first zs ys n x is

nth-behind : {A : Type 0} (xs ys : List A) (n m : ℕ) → m ≡ length xs + n → nth (xs ++ ys) m ≡ nth ys n
nth-behind [] ys n m is = ap (nth ys) (omega (arith, is))
nth-behind (x ∷ xs) ys n zero is = absurd (omega (arith, is))
nth-behind (x ∷ xs) ys n (suc m) is = nth-behind xs ys n m (omega (arith, is))

nth-map : {A B : Type 0} (f : A → B) (xs : List A) (n : ℕ) (x : A) → nth xs n ≡ Some x → nth (map f xs) n ≡ Some (f x)
nth-map f [] n x is = absurd cc
nth-map f (y ∷ ys) zero x is = ap (option_map f) is
nth-map f (y ∷ ys) (suc n) x is = nth-map f ys n x is

pub length-around : {S T U : Type 0} (before behind : List Word) (make : T → U) (hs : List (Hole S T)) → length (all_around before behind make hs) ≡ length hs
length-around before behind make [] = refl
length-around before behind make (h ∷ hs) = ap suc (length-around before behind make hs)

-- what holds of every element and its number, counted from `n`
abbrev pub EveryAt : {A : Type 0} → (ℕ → A → Type 0) → ℕ → List A → Type 0
EveryAt P n [] = ⊤
EveryAt P n (x ∷ xs) = P n x × EveryAt P (suc n) xs

pub every-at-append : {A : Type 0} (P : ℕ → A → Type 0) (n m : ℕ) (xs ys : List A) → m ≡ length xs + n → EveryAt P n xs → EveryAt P m ys → EveryAt P n (xs ++ ys)
every-at-append P n m [] ys is p q = subst (λ i. EveryAt P i ys) (omega (arith, is)) q
every-at-append P n m (x ∷ xs) ys is p q = (p.0, every-at-append P (suc n) m xs ys (omega (arith, is)) p.1 q)

pub every-at-nth : {A : Type 0} (P : ℕ → A → Type 0) (n m k : ℕ) (xs : List A) (x : A) → k ≡ n + m → EveryAt P n xs → nth xs m ≡ Some x → P k x
every-at-nth P n m k [] x e p is = absurd cc
every-at-nth P n zero k (y ∷ ys) x e p is = subst (P k) (some-injective y x is) (subst (λ i. P i y) (omega (arith, e)) p.0)
every-at-nth P n (suc m) k (y ∷ ys) x e p is = every-at-nth P (suc n) m k ys x (omega (arith, e)) p.1 is

-- ---- holes

-- the hole with another node in it
abbrev pub with_node : {S T : Type 0} → (h : Hole S T) → Node h.sort S → Hole S T
with_node h y = record { sort = h.sort; inside = y; before = h.before; behind = h.behind; back = h.back }

-- The n-th hole of a thing is the n-th one also with another node in it, and that thing is like the old one.
pub record Stays (S T : Type 0) (holes : T → List (Hole S T)) (Like : T → Type 0) (n : ℕ) (h : Hole S T) : Type 0 where
  pub found : (y : Node h.sort S) → nth (holes (h.back y)) n ≡ Some (with_node h y)
  pub like : (y : Node h.sort S) → Like (h.back y)

-- The holes of a part stay in the whole, behind so many others.
module _ (S T U : Type 0) (holes : T → List (Hole S T)) (whole : U → List (Hole S U)) (LikeT : T → Type 0) (LikeU : U → Type 0) (before behind : List Word) (make : T → U) (k : ℕ)
    (front rest : T → List (Hole S U))
    (parts : (z : T) → LikeT z → whole (make z) ≡ front z ++ (all_around before behind make (holes z) ++ rest z)) (count : (z : T) → length (front z) ≡ k)
    (likely : (z : T) → LikeT z → LikeU (make z)) where
  one-stays : (n m : ℕ) → m ≡ k + n → (h : Hole S T) → Stays S T holes LikeT n h → Stays S U whole LikeU m (around before behind make h)
  one-stays n m is h s = record {
    found = λ y.
        let z = h.back y in
        let own = nth-map (around before behind make) (holes z) n (with_node h y) (s.found y) in
        ap (λ hs. nth hs m) (parts z (s.like y))
        ∙ nth-behind (front z) (all_around before behind make (holes z) ++ rest z) n m (is ∙ ap (λ i. i + n) (sym (count z)))
        ∙ nth-first (all_around before behind make (holes z)) (rest z) n (around before behind make (with_node h y)) own;
    like = λ y. likely (h.back y) (s.like y);
  }

  pub part-stays : (n m : ℕ) → m ≡ k + n → (hs : List (Hole S T)) → EveryAt (Stays S T holes LikeT) n hs → EveryAt (Stays S U whole LikeU) m (all_around before behind make hs)
  part-stays n m is [] s = tt
  part-stays n m is (h ∷ hs) s = (one-stays n m is h s.0, part-stays (suc n) (suc m) (omega (arith, is)) hs s.1)
