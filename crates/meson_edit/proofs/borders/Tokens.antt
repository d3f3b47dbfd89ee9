-- Tokens that reach no further than a number.
use Rattle.meson_edit.proofs.Words.{ℕ, ◌+◌, ◌≤◌, Bool, true, false, List, [], ◌∷◌, ◌++◌, length, subst, sym, arith, max-le, Lexeme, joined, Token, line_end_at}
use Rattle.meson_edit.proofs.Words.{spot_by, end_by, spots, end_after, closing_at, located, Role, Gap, Ends, Opens, Closes, Other, role, State, start, step}
use Rattle.meson_edit.proofs.Words.{after, ends_line, only_if, Span, furthest_span, end_of, Covers, Then}
use Rattle.std.proofs.lemmas.List.{length-append}

abbrev pub Within : ℕ → List Token → Type 0
Within n [] = Unit {0}
Within n (t ∷ ts) = (t.from ≤ n) × (t.to ≤ n) × Within n ts

pub within-front : (n : ℕ) (xs ys : List Token) → Within n (xs ++ ys) → Within n xs
within-front n [] ys w = tt
within-front n (x ∷ xs) ys w = (w.0, w.1, within-front n xs ys w.2)

pub within-back : (n : ℕ) (xs ys : List Token) → Within n (xs ++ ys) → Within n ys
within-back n [] ys w = w
within-back n (x ∷ xs) ys w = within-back n xs ys w.2

within-append : (n : ℕ) (xs ys : List Token) → Within n xs → Within n ys → Within n (xs ++ ys)
within-append n [] ys v w = w
within-append n (x ∷ xs) ys v w = (v.0, v.1, within-append n xs ys v.2 w)

-- the two parts
pub parts-within : (n : ℕ) (P Q : List Token → Type 0) (ts : List Token) (t : Then P Q ts) → Within n ts → Within n t.front × Within n t.back
parts-within n P Q ts t w =
    let both : Within n (t.front ++ t.back) = subst (Within n) t.joined w in
    (within-front n t.front t.back both, within-back n t.front t.back both)

end-within : (n last : ℕ) (ts : List Token) → last ≤ n → Within n ts → end_of last ts ≤ n
end-within n last [] h w = h
end-within n last (t ∷ ts) h w = end-within n t.to ts w.1 w.2

-- the span of such tokens
pub covers-within : (n : ℕ) (s : Span) (ts : List Token) → Covers s ts → Within n ts → furthest_span s ≤ n
covers-within n s [] c w = absurd c
covers-within n s (t ∷ ts) c w =
    let end = end-within n t.to ts w.1 w.2 in
    max-le (subst (λ m. m ≤ n) (sym c.0) w.0) (subst (λ m. m ≤ n) (sym c.1) end)

-- ---- the tokens of a text

spot-within : (n : ℕ) (r : Role) (s : State) (x : Lexeme) (end at : ℕ) → end ≤ n → at + length x.text ≤ n → Within n (spot_by r s x end at)
spot-within n Gap s x end at e h = tt
spot-within n Ends s x end at e h = line (ends_line s.depth s.fresh)
  where
    line : (b : Bool) → Within n (only_if b (line_end_at end))
    line true = (e, e, tt)
    line false = tt
spot-within n Opens s x end at e h = (omega (arith, h), h, tt)
spot-within n Closes s x end at e h = (omega (arith, h), h, tt)
spot-within n Other s x end at e h = (omega (arith, h), h, tt)

spot-end : (n : ℕ) (r : Role) (x : Lexeme) (end at : ℕ) → end ≤ n → at + length x.text ≤ n → end_by r x end at ≤ n
spot-end n Gap x end at e h = e
spot-end n Ends x end at e h = e
spot-end n Opens x end at e h = h
spot-end n Closes x end at e h = h
spot-end n Other x end at e h = h

pub spots-within : (n : ℕ) (s : State) (end at : ℕ) (xs : List Lexeme) → end ≤ n → at + length (joined xs) ≤ n
    → Within n (spots s end at xs) × (end_after end at xs ≤ n)
spots-within n s end at [] e h = (tt, e)
spots-within n s end at (x ∷ xs) e h =
    let r = role x.kind in
    let sum = length-append x.text (joined xs) in
    let here : at + length x.text ≤ n = omega (arith, h, sum) in
    let behind : at + length x.text + length (joined xs) ≤ n = omega (arith, h, sum) in
    let more = spots-within n (step s x) (end_by r x end at) (at + length x.text) xs (spot-end n r x end at e here) behind in
    (within-append n (spot_by r s x end at) _ (spot-within n r s x end at e here) more.0, more.1)

pub located-within : (n : ℕ) (xs : List Lexeme) → length (joined xs) ≤ n → Within n (located xs)
located-within n xs h =
    let all = spots-within n start 0 0 xs (omega arith) (omega (arith, h)) in
    within-append n (spots start 0 0 xs) _ all.0 (closing (after start xs).fresh)
  where
    closing : (b : Bool) → Within n (closing_at b (end_after 0 0 xs))
    closing true = tt
    closing false = let all = spots-within n start 0 0 xs (omega arith) (omega (arith, h)) in (all.1, all.1, tt)
