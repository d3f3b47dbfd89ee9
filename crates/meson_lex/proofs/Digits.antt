-- The numbers that octal and hexadecimal digits write.
use Rattle.std.proofs.Common.{◌≡◌, ℕ, suc, zero, ◌+◌, ◌*◌, ◌^◌, ◌<◌, ◌≤◌, Bool, true, not, ltb, leb, ◌&&◌, ◌||◌, List, [], ◌∷◌, length, take, get_or, sym, refl, ap, ◌∙◌, subst, arith, ⊎_elim, lit<}
use Rattle.std.specs.Char.{digit_value}
use Rattle.std.specs.List.{take_while}
use Rattle.std.specs.Str.Parse.{digits_value, AllDigits}
use Rattle.std.proofs.Math.Nat.{pow-le-pow_left, pow-le-pow_right}
use Rattle.std.proofs.lemmas.Bool.{cond_both, and_parts, or_cases, leb-true, ltb-true, false≢true, agree_below_at}
use Rattle.std.proofs.lemmas.Int.Digits.{digits_value_more, digits_value-lt}
use Rattle.std.proofs.lemmas.List.Sums.{take_while-cons}
use Rattle.std.proofs.lemmas.List.{length-take}
use Rattle.meson_lex.specs.Bytes.{is_octal, is_hexadecimal}

-- ---- single digits

between : (m n b : ℕ) → n < 128 → (leb m b && leb b n) ≡ true → b < 128
between m n b small h = let high : b ≤ n = leb-true b n (and_parts (leb m b) (leb b n) h).1 in omega (arith, high)

pub octal_low : (b : ℕ) → is_octal b ≡ true → b < 128
octal_low b h = between 48 55 b (lit< tt) h

pub hexadecimal_low : (b : ℕ) → is_hexadecimal b ≡ true → b < 128
hexadecimal_low b h =
    ⊎_elim
    (λ l. ⊎_elim (λ d. between 48 57 b (lit< tt) d) (λ a. between 97 102 b (lit< tt) a) (or_cases _ _ l))
    (λ a. between 65 70 b (lit< tt) a)
    (or_cases _ _ h)

-- where the test passes, the digit lies below the base
abbrev is_below : (ℕ → Bool) → ℕ → ℕ → Bool
is_below test base b = not (test b) || ltb (digit_value b) base

below_base : (test : ℕ → Bool) (base b : ℕ) → is_below test base b ≡ true → test b ≡ true → digit_value b < base
below_base test base b good passes =
    ⊎_elim
    (λ fails. absurd (false≢true (sym (ap not passes) ∙ fails)))
    (λ low. ltb-true (digit_value b) base low)
    (or_cases _ _ good)

pub octal_digit : (b : ℕ) → is_octal b ≡ true → digit_value b < 8
octal_digit b h = below_base is_octal 8 b (agree_below_at (is_below is_octal 8) (λ _. true) 128 b refl (octal_low b h)) h

pub hexadecimal_digit : (b : ℕ) → is_hexadecimal b ≡ true → digit_value b < 16
hexadecimal_digit b h = below_base is_hexadecimal 16 b (agree_below_at (is_below is_hexadecimal 16) (λ _. true) 128 b refl (hexadecimal_low b h)) h

-- ---- runs of digits

run_digits : (test : ℕ → Bool) (base : ℕ) → ((b : ℕ) → test b ≡ true → digit_value b < base) → (bs : List ℕ) → AllDigits base (take_while test bs)
run_digits test base each [] = tt
run_digits test base each (b ∷ bs) =
    subst (AllDigits base) (sym (take_while-cons test b bs))
    (cond_both (test b) _ _ (AllDigits base) (λ passes. (each b passes, run_digits test base each bs)) (λ _. tt))

pub octal_digits : (bs : List ℕ) → AllDigits 8 (take_while is_octal bs)
octal_digits = run_digits is_octal 8 octal_digit

pub hexadecimal_digits : (bs : List ℕ) → AllDigits 16 (take_while is_hexadecimal bs)
hexadecimal_digits = run_digits is_hexadecimal 16 hexadecimal_digit

-- ---- their number

digits_front : (base n : ℕ) (ds : List ℕ) → AllDigits base ds → AllDigits base (take n ds)
digits_front base zero ds h = tt
digits_front base (suc n) [] h = tt
digits_front base (suc n) (d ∷ ds) h = (h.0, digits_front base n ds h.1)

-- one more digit of at most eight
pub record OneMore (base value : ℕ) (digits : List ℕ) (i : ℕ) : Type 0 where
  pub fits_product : value * base < 2 ^ 32
  pub fits : value * base + digit_value (get_or digits i 0) < 2 ^ 32
  pub is : value * base + digit_value (get_or digits i 0) ≡ digits_value base (take (i + 1) digits)

pub one_more : (base value : ℕ) (digits : List ℕ) (i : ℕ) → base ≤ 16 → length digits ≤ 8 → AllDigits base digits → i < length digits → value ≡ digits_value base (take i digits) → OneMore base value digits i
one_more base value digits i small few each inside so_far =
    let n : ℕ = length (take (i + 1) digits) in
    let is : value * base + digit_value (get_or digits i 0) ≡ digits_value base (take (i + 1) digits) =
    ap (λ v. v * base + digit_value (get_or digits i 0)) so_far ∙ sym (digits_value_more base digits i inside) in
    let below : digits_value base (take (i + 1) digits) < base ^ n = digits_value-lt base (take (i + 1) digits) (digits_front base (i + 1) digits each) in
    let wider : base ^ n ≤ 16 ^ n = pow-le-pow_left small n in
    let short : n ≤ 8 = simp length-take (omega arith) in
    let longer : 16 ^ n ≤ 16 ^ 8 = pow-le-pow_right (lit< tt) short in
    let room : value * base + digit_value (get_or digits i 0) < 2 ^ 32 = omega (arith, is, below, wider, longer) in
    record { fits_product = omega (arith, room); fits = room; is = is }
