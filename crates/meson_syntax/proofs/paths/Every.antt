-- What holds of every element of a list, and of every hole around a part.
use Rattle.std.specs.Prelude.{⊤}
use Rattle.std.proofs.Common.{◌≡◌, ℕ, zero, suc, List, [], ◌∷◌, ◌++◌, Some, subst}
use Rattle.meson_lex.specs.Significant.{Word}
use Rattle.meson_syntax.specs.Paths.{Hole, around, all_around, nth}
use Rattle.meson_syntax.proofs.parsing.Steps.{some-injective}

abbrev pub Every : {A : Type 0} → (A → Type 0) → List A → Type 0
Every P [] = ⊤
Every P (x ∷ xs) = P x × Every P xs

pub every-append : {A : Type 0} (P : A → Type 0) (xs ys : List A) → Every P xs → Every P ys → Every P (xs ++ ys)
every-append P [] ys p q = q
every-append P (x ∷ xs) ys p q = (p.0, every-append P xs ys p.1 q)

pub every-nth : {A : Type 0} (P : A → Type 0) (xs : List A) (n : ℕ) (x : A) → Every P xs → nth xs n ≡ Some x → P x
every-nth P [] n x p h = absurd cc
every-nth P (y ∷ xs) zero x p h = subst P (some-injective y x h) p.0
every-nth P (y ∷ xs) (suc n) x p h = every-nth P xs n x p.1 h

pub every-around : {S T U : Type 0} (P : Hole S T → Type 0) (Q : Hole S U → Type 0) (before behind : List Word) (make : T → U)
    → ((h : Hole S T) → P h → Q (around before behind make h)) → (hs : List (Hole S T)) → Every P hs → Every Q (all_around before behind make hs)
every-around P Q before behind make f [] p = tt
every-around P Q before behind make f (h ∷ hs) p = (f h p.0, every-around P Q before behind make f hs p.1)
