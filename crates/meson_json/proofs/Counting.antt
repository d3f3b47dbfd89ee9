-- What std reads of a word is what it counts.
use Rattle.std.proofs.Common.{◌≡◌, ◌<◌, ◌^◌, ◌&&◌, ℕ, Bool, true, false, List, [], ◌∷◌, length, Some, None, Result, Ok, Err, refl, arith}
use Rattle.std.specs.Prelude.{◌==◌, nat_lt, slice_index, if◌then◌else◌}
use Rattle.std.specs.Result.{OkIff}
use Rattle.std.specs.Str.{all_ascii_digits}
use Rattle.std.specs.Str.Parse.{ParsesUnsigned, digits_value}
use Rattle.std.proofs.lemmas.Bool.{lt-ltb, ltb-true}
use Rattle.std.proofs.lemmas.Str.Parse.{numerals_by_value, parse_plain, tells_all_ascii_digits}
use Rattle.meson_json.specs.Counts.{count_of, is_count}

-- a plus is no digit
pub plus : (word : List ℕ) → (slice_index word 0 == 43) ≡ true → None ≡ count_of word
unfolding count_of
plus [] e = cc
plus (c ∷ cs) e = let is : c ≡ 43 = grind (arith, e) in rw is refl

pub by_bool : (b : Bool) (v : ℕ) → (b ≡ true → ⊥) → None ≡ (if b then Some v else None)
by_bool true v n = absurd (n refl)
by_bool false v n = refl

pub split : (a b : Bool) → (a && b) ≡ true → (a ≡ true) × (b ≡ true)
split true b e = (refl, e)
split false b e = cc

some_digit : (word : List ℕ) → 0 < digits_value 10 word → 0 < length word
some_digit [] h = h
some_digit (c ∷ cs) h = omega arith

record Counts (word : List ℕ) : Type 0 where
  digits : all_ascii_digits word ≡ true
  some : 0 < digits_value 10 word
  fits : digits_value 10 word < 2 ^ 64

counts : (word : List ℕ) → is_count word ≡ true → Counts word
counts word e =
    let both = split (all_ascii_digits word) _ e in
    let bounds = split (nat_lt 0 (digits_value 10 word)) (nat_lt (digits_value 10 word) (2 ^ 64)) both.1 in
    record { digits = both.0; some = ltb-true _ _ bounds.0; fits = ltb-true _ _ bounds.1 }

abbrev pub Read : List ℕ → Type 0
Read word = (all_ascii_digits word ≡ true) × (0 < length word) × (digits_value 10 word < 2 ^ 64)

-- what it reads does not depend on how it says that it reads nothing
abbrev pub Parses : List ℕ → Result ℕ (Unit {0}) → Type 0
Parses word r = ParsesUnsigned 64 10 word r

module _ (word : List ℕ) (plain : (slice_index word 0 == 43) ≡ false) where
  pub told : (r : Result ℕ (Unit {0})) → Parses word r → OkIff r (Read word) (digits_value 10 word)
  told r parsed = parse_plain (numerals_by_value _ tells_all_ascii_digits) 64 word r parsed (λ is. let no : ⊥ = grind (arith, plain, is) in no)

  pub none : (n : ℕ) → n ≡ 0 → Parses word (Ok n) → None ≡ count_of word
  unfolding count_of
  none n zero parsed = by_bool (is_count word) _ (λ e. let is = (told (Ok n) parsed).1 in let some = (counts word e).some in omega (arith, is, some, zero))

  pub one : (n : ℕ) → 0 < n → Parses word (Ok n) → Some n ≡ count_of word
  unfolding count_of
  one n some parsed =
      let read = told (Ok n) parsed in
      rw (read.1, read.0.0, lt-ltb 0 (digits_value 10 word) (omega (arith, read.1, some)), lt-ltb (digits_value 10 word) (2 ^ 64) read.0.2) refl

  pub failed : Parses word (Err tt) → None ≡ count_of word
  unfolding count_of
  failed parsed = by_bool (is_count word) _ (λ e. let it = counts word e in told (Err tt) parsed (it.digits, some_digit word it.some, it.fits))
