-- Item lists, one after another.
use Rattle.std.proofs.Common.{◌≡◌, ℕ, List, [], ◌∷◌, ◌++◌, sym, refl, ap, ◌∙◌, subst, append_assoc}
use Rattle.meson_lex.specs.Items.{Lexeme, joined, IsItem, AreItems}

pub joined-append : (xs ys : List Lexeme) → joined (xs ++ ys) ≡ joined xs ++ joined ys
joined-append [] ys = refl
joined-append (x ∷ xs) ys = ap (λ l. x.text ++ l) (joined-append xs ys) ∙ sym (append_assoc x.text (joined xs) (joined ys))

-- items before items
pub AreItems-append : (xs ys : List Lexeme) (rest : List ℕ) → AreItems xs (joined ys ++ rest) → AreItems ys rest → AreItems (xs ++ ys) rest
AreItems-append [] ys rest h g = g
AreItems-append (x ∷ xs) ys rest h g =
    let follows : joined xs ++ (joined ys ++ rest) ≡ joined (xs ++ ys) ++ rest = sym (append_assoc (joined xs) (joined ys) rest) ∙ ap (λ l. l ++ rest) (sym (joined-append xs ys)) in
    (subst (IsItem x) follows h.0, AreItems-append xs ys rest h.1 g)

-- and back
pub AreItems-split : (xs ys : List Lexeme) (rest : List ℕ) → AreItems (xs ++ ys) rest → AreItems xs (joined ys ++ rest) × AreItems ys rest
AreItems-split [] ys rest h = (tt, h)
AreItems-split (x ∷ xs) ys rest h =
    let follows : joined (xs ++ ys) ++ rest ≡ joined xs ++ (joined ys ++ rest) = ap (λ l. l ++ rest) (joined-append xs ys) ∙ append_assoc (joined xs) (joined ys) rest in
    let later = AreItems-split xs ys rest h.1 in
    ((subst (IsItem x) follows h.0, later.0), later.1)
