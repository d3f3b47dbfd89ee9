-- A text has at most one item list.
use Rattle.std.proofs.Common.{◌≡◌, ℕ, List, [], ◌∷◌, ◌++◌, length, take, drop, Ok, Err, sym, refl, ap, ◌∙◌}
use Rattle.std.proofs.lemmas.List.{take_at, drop_at, append-nil, append_assoc}
use Rattle.meson_lex.specs.declared.kinds.Kind.{Kind}
use Rattle.meson_lex.specs.declared.kinds.Kind.TheVariants.{Blank}
use Rattle.meson_lex.specs.declared.fault.LexFault.TheVariants.{StrayByte}
use Rattle.meson_lex.specs.Items.{Lexeme, joined, IsItem, AreItems, IsItemList}
use Rattle.meson_lex.specs.Scan.{Front, front}
use Rattle.meson_lex.proofs.FrontComplete.{found, front_again}

-- the kind and the length of what is found
abbrev found_kind : Front → Kind
found_kind (Ok p) = p.0
found_kind (Err f) = Blank

abbrev found_len : Front → ℕ
found_len (Ok p) = p.1
found_len (Err f) = 0

same_found : (k l : Kind) (m n : ℕ) → found k m ≡ found l n → (k ≡ l) × (m ≡ n)
same_found k l m n e = (ap found_kind e, ap found_len e)

front_nil : (at : ℕ) → front at [] ≡ Err (StrayByte at)
unfolding front
front_nil at = refl

-- at the front of one text stands one item
pub same_item : (x y : Lexeme) (p q : List ℕ) → x.text ++ p ≡ y.text ++ q → IsItem x p → IsItem y q → (x ≡ y) × (p ≡ q)
same_item x y p q e is_x is_y =
    let at_x = front_again 0 x.kind x.text p is_x.0 is_x.1 is_x.2 in
    let at_y = front_again 0 y.kind y.text q is_y.0 is_y.1 is_y.2 in
    let same = same_found x.kind y.kind _ _ (sym at_x ∙ ap (front 0) e ∙ at_y) in
    let text : x.text ≡ y.text = sym (take_at x.text p (length x.text) refl) ∙ ap (take (length x.text)) e ∙ take_at y.text q (length x.text) (sym same.1) in
    let rest : p ≡ q = sym (drop_at x.text p (length x.text) refl) ∙ ap (drop (length x.text)) e ∙ drop_at y.text q (length x.text) (sym same.1) in
    (λ i. record { kind = same.0 i; text = text i }, rest)

-- no item stands where there is nothing
pub no_item : (y : Lexeme) (q : List ℕ) → [] ≡ y.text ++ q → IsItem y q → ⊥
no_item y q e is_y =
    let at_y = front_again 0 y.kind y.text q is_y.0 is_y.1 is_y.2 in
    let none = sym (front_nil 0) ∙ ap (front 0) e ∙ at_y in
    cc

same_list : (xs ys : List Lexeme) → joined xs ++ [] ≡ joined ys ++ [] → AreItems xs [] → AreItems ys [] → xs ≡ ys
same_list [] [] e h g = refl
same_list [] (y ∷ ys) e h g = absurd (no_item y (joined ys ++ []) (e ∙ append_assoc y.text (joined ys) []) g.0)
same_list (x ∷ xs) [] e h g = absurd (no_item x (joined xs ++ []) (sym e ∙ append_assoc x.text (joined xs) []) h.0)
same_list (x ∷ xs) (y ∷ ys) e h g =
    let same = same_item x y _ _ (sym (append_assoc x.text (joined xs) []) ∙ e ∙ append_assoc y.text (joined ys) []) h.0 g.0 in
    (λ i. same.0 i ∷ same_list xs ys same.1 h.1 g.1 i)

pub one_list : (bytes : List ℕ) (xs ys : List Lexeme) → IsItemList bytes xs → IsItemList bytes ys → xs ≡ ys
one_list bytes xs ys h g = same_list xs ys (append-nil (joined xs) ∙ h.joins ∙ sym g.joins ∙ sym (append-nil (joined ys))) h.each g.each
