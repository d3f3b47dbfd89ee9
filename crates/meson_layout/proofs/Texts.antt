-- The texts of items, and their lengths.
use Rattle.std.proofs.Common.{◌≡◌, ℕ, zero, suc, ◌+◌, ◌≤◌, List, [], ◌∷◌, ◌++◌, length, take, drop, sym, ap, ◌∙◌, append_assoc, arith}
use Rattle.std.proofs.lemmas.List.{append-nil, length-append, take-append-drop}
use Rattle.meson_lex.specs.Items.{Lexeme, joined}
use Rattle.meson_lex.proofs.Seams.{joined-append}
use Rattle.meson_layout.specs.Pieces.{as_one, close_square, comma}

pub joined_take : (n : ℕ) (xs : List Lexeme) → length (joined (take n xs)) ≤ length (joined xs)
joined_take zero xs = omega arith
joined_take (suc n) [] = omega arith
joined_take (suc n) (x ∷ xs) =
    let a = length-append x.text (joined (take n xs)) in
    let b = length-append x.text (joined xs) in
    let c = joined_take n xs in
    omega arith

-- a line and what is new on it
pub line_joined : (line : List Lexeme) (new : List ℕ) → joined (line ++ as_one new) ≡ joined line ++ new
line_joined line new = joined-append line (as_one new) ∙ ap (λ l. joined line ++ l) (append-nil new)

pub line_joined_comma : (line : List Lexeme) (new : List ℕ) → joined (line ++ (as_one new ++ comma ∷ [])) ≡ (joined line ++ new) ++ 44 ∷ []
line_joined_comma line new = joined-append line (as_one new ++ comma ∷ []) ∙ sym (append_assoc (joined line) new (44 ∷ []))

pub joined_drop : (n : ℕ) (xs : List Lexeme) → length (joined (drop n xs)) ≤ length (joined xs)
joined_drop zero xs = omega arith
joined_drop (suc n) [] = omega arith
joined_drop (suc n) (x ∷ xs) =
    let b = length-append x.text (joined xs) in
    let c = joined_drop n xs in
    omega arith

-- the texts of a range with what it takes along
pub joined_three : (a b c : List Lexeme) → joined (a ++ (b ++ c)) ≡ joined a ++ (joined b ++ joined c)
joined_three a b c = joined-append a (b ++ c) ∙ ap (λ l. joined a ++ l) (joined-append b c)

pub joined_five : (a b c d e : List Lexeme) → joined (a ++ ((b ++ (c ++ d)) ++ e)) ≡ joined a ++ (joined b ++ (joined c ++ (joined d ++ joined e)))
joined_five a b c d e =
    joined_three a (b ++ (c ++ d)) e
    ∙ ap (λ l. joined a ++ (l ++ joined e)) (joined_three b c d)
    ∙ ap (λ l. joined a ++ l) (append_assoc (joined b) (joined c ++ joined d) (joined e) ∙ ap (λ l. joined b ++ l) (append_assoc (joined c) (joined d) (joined e)))

pub joined_split : (n : ℕ) (xs : List Lexeme) → length (joined (take n xs)) + length (joined (drop n xs)) ≡ length (joined xs)
joined_split n xs =
    sym (length-append (joined (take n xs)) (joined (drop n xs))) ∙ ap length (sym (joined-append (take n xs) (drop n xs))) ∙ ap (λ l. length (joined l)) (take-append-drop n xs)

-- a value in brackets
pub joined_closed : (own : List Lexeme) → joined (own ++ close_square ∷ []) ≡ joined own ++ 93 ∷ []
joined_closed own = joined-append own (close_square ∷ [])
