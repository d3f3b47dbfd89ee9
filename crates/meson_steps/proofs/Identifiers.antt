-- The test of identifiers, and its meaning.
use Rattle.meson_steps.proofs.Words.{◌≡◌, ℕ, true, false, List, [], ◌∷◌, map, refl, sym, Bool, not, ◌&&◌, ◌||◌, bytes_eq, bytes_eq-Decides, IsNoneOf, spelling}
use Rattle.meson_steps.proofs.Words.{Kind, one_of}
use Rattle.std.specs.Prelude.{◌↔◌, IsTrue}
use Rattle.std.specs.Bool.{Decides}
use Rattle.std.proofs.lemmas.Bool.Decides.{Decides-and, Decides-at, Decides-like, Decides-not, same_from_decides}
use Rattle.meson_lex.specs.Kinds.{IsIdentifier, IsWord, reserved}
use Rattle.meson_steps.specs.Identifiers.{is_identifier, is_word}

word_decides : (t : List ℕ) → Decides (is_word t) (IsWord t)
word_decides [] = (λ is. absurd cc, λ word. absurd word)
word_decides (b ∷ bs) = Decides-and _ _ (λ is. is, λ is. is) (λ is. is, λ is. is)

neither : (a b : Bool) → not (a || b) ≡ not a && not b
neither true b = refl
neither false b = refl

none_decides : (ks : List Kind) (t : List ℕ) → Decides (not (one_of (map spelling ks) t)) (IsNoneOf ks t)
none_decides [] t = (λ is. tt, λ none. refl)
none_decides (k ∷ ks) t =
    Decides-at _ _ (neither (bytes_eq (spelling k) t) (one_of (map spelling ks) t))
    (Decides-and _ _ (Decides-not _ (Decides-like _ sym sym (bytes_eq-Decides (spelling k) t))) (none_decides ks t))

identifier_decides : (t : List ℕ) → Decides (is_identifier t) (IsIdentifier t)
identifier_decides t = Decides-and _ _ (word_decides t) (none_decides reserved t)

pub identifier_true : (t : List ℕ) → is_identifier t ≡ true → IsIdentifier t
identifier_true t is = (identifier_decides t).0 is

pub identifier_is : (b : Bool) (t : List ℕ) → (IsTrue b ↔ IsIdentifier t) → b ≡ is_identifier t
identifier_is b t is = same_from_decides b (is_identifier t) is (identifier_decides t)
