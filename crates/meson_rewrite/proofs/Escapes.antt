-- What is written for a character of a JSON string.
use Rattle.std.proofs.Common.{◌≡◌, ℕ, suc, ◌<◌, ◌≤◌, ◌^◌, ◌-◌, true, false, List, [], ◌∷◌, ◌++◌, length, get_or, inl, inr, refl, sym, ap₂, ◌∙◌, subst, arith, append-nil, encode_utf8, lit<, nat_lt}
use Rattle.std.proofs.lemmas.Bool.{cases_lt, lt-ltb}
use Rattle.std.proofs.lemmas.Fmt.{hex_byte}
use Rattle.std.proofs.lemmas.Str.{encode_ascii, inside_one}
use Rattle.std.specs.Fmt.{digits, format_spec, padded_integral}
use Rattle.json.specs.Print.{escape, escape_byte, escape_letter}
use Rattle.json.proofs.Printed.Strings.{escape_byte_plain}

pub with_letter : (c letter : ℕ) → escape_letter c ≡ letter → c < 128 → 0 < letter → letter < 128 → 92 ∷ encode_utf8 letter ≡ escape (encode_utf8 c)
unfolding escape_byte
with_letter c letter e small some low =
    let tested : nat_lt 0 (escape_letter c) ≡ true = lt-ltb 0 (escape_letter c) (subst (λ n. 0 < n) (sym e) some) in
    rw (encode_ascii c small, encode_ascii letter low) (rw (tested, e) refl)

pub with_digits : (c : ℕ) → escape_letter c ≡ 0 → c < 32
    → 92 ∷ 117 ∷ 48 ∷ 48 ∷ padded_integral (format_spec 32 0 4 2 (2 ^ 64 - 1)) false [] (digits 16 false c) ≡ escape (encode_utf8 c)
unfolding escape_byte
with_digits c none small = rw (encode_ascii c (omega arith), hex_byte false c (omega arith)) (rw (none, lt-ltb c 32 small) refl)

high : (xs : List ℕ) → ((k : ℕ) → k < length xs → 128 ≤ get_or xs k 0) → escape xs ≡ xs
high [] h = refl
high (x ∷ xs) h =
    let first : 128 ≤ x = h 0 (omega arith) in
    ap₂ (λ (a b : List ℕ). a ++ b) (escape_byte_plain x (λ e. omega arith) (λ e. omega arith) (omega arith)) (high xs (λ k below. h (suc k) (omega arith)))

-- a character that has no short escape is none of those that have one
not_short : (c d : ℕ) → escape_letter c ≡ 0 → 0 < escape_letter d → c ≡ d → ⊥
not_short c d none some e = let same = subst (λ x. escape_letter x ≡ 0) e none in omega arith

pub as_it_is : (c : ℕ) → escape_letter c ≡ 0 → 32 ≤ c → encode_utf8 c ≡ escape (encode_utf8 c)
as_it_is c none big = elim (cases_lt c 128) [
  | inl small ↦ rw (encode_ascii c small) (sym (append-nil _ ∙ escape_byte_plain c (not_short c 34 none (lit< tt)) (not_short c 92 none (lit< tt)) big))
  | inr large ↦
      let far : (k : ℕ) → k < length (encode_utf8 c) → 128 ≤ get_or (encode_utf8 c) k 0 = λ k below. elim (cases_lt (get_or (encode_utf8 c) k 0) 128) [
        | inl low ↦ absurd (omega (arith, inside_one c [] (encode_utf8 c) k (sym (append-nil _)) below low))
        | inr h ↦ h
      ] in
      sym (high (encode_utf8 c) far)
]
