-- One more variable that is followed, in the list and in the set.
use Rattle.meson_variables.proofs.Words.{◌≡◌, ℕ, List, [], ◌∷◌, ◌++◌, Bor, map, refl, sym, ap, ◌∙◌, Bool, true, false, cond, ◌||◌, bytes_eq, reverse}
use Rattle.meson_variables.proofs.Words.{map-append, reverse-append, one_of}

either : (b c : Bool) → cond b true c ≡ (b || c)
either true c = refl
either false c = refl

abbrev pub names_of : List (Bor (List ℕ)) → List (List ℕ)
names_of items = reverse (map (λ k. k.now) items)

pub one_more : (items : List (Bor (List ℕ))) (name : Bor (List ℕ)) → names_of (items ++ name ∷ []) ≡ name.now ∷ names_of items
one_more items name = ap reverse (map-append (λ k. k.now) items (name ∷ [])) ∙ reverse-append (map (λ k. k.now) items) (name.now ∷ [])

pub has_more : (items before after : List (Bor (List ℕ))) (name : Bor (List ℕ)) (x : List ℕ) (had has : Bool) → before ≡ items → after ≡ before ++ name ∷ [] →
    had ≡ one_of (names_of items) x → has ≡ cond (bytes_eq name.now x) true had → has ≡ one_of (names_of after) x
has_more items before after name x had has same pushed was now =
    now ∙ either (bytes_eq name.now x) had ∙ ap (λ b. bytes_eq name.now x || b) was
    ∙ sym (ap (λ ys. one_of (names_of ys) x) (pushed ∙ ap (λ ys. ys ++ name ∷ []) same) ∙ ap (λ ys. one_of ys x) (one_more items name))
