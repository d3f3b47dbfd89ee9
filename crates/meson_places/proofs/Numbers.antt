-- What std reads of a word is the number that it writes.
use Rattle.std.proofs.Common.{◌≡◌, ◌<◌, ◌^◌, ◌&&◌, ℕ, Bool, true, false, List, [], ◌∷◌, length, Some, None, Result, Ok, Err, refl, arith}
use Rattle.std.specs.Prelude.{◌==◌, nat_lt, slice_index, if◌then◌else◌}
use Rattle.std.specs.Result.{OkIff}
use Rattle.std.specs.Str.{all_ascii_digits}
use Rattle.std.specs.Str.Parse.{ParsesUnsigned, digits_value}
use Rattle.std.proofs.lemmas.Bool.{lt-ltb, ltb-true}
use Rattle.std.proofs.lemmas.Str.Parse.{numerals_by_value, parse_plain, tells_all_ascii_digits}
use Rattle.meson_places.specs.Slots.{number_of, is_number}

-- a plus is not a digit
pub plus : (word : List ℕ) → (slice_index word 0 == 43) ≡ true → None ≡ number_of word
unfolding number_of
plus [] e = cc
plus (c ∷ cs) e = let is : c ≡ 43 = grind (arith, e) in rw is refl

by_bool : (b : Bool) (v : ℕ) → (b ≡ true → ⊥) → None ≡ (if b then Some v else None)
by_bool true v n = absurd (n refl)
by_bool false v n = refl

split : (a b : Bool) → (a && b) ≡ true → (a ≡ true) × (b ≡ true)
split true b e = (refl, e)
split false b e = cc

record IsWritten (word : List ℕ) : Type 0 where
  digits : all_ascii_digits word ≡ true
  some : 0 < length word
  fits : digits_value 10 word < 2 ^ 64

written : (word : List ℕ) → is_number word ≡ true → IsWritten word
written word e =
    let both = split (all_ascii_digits word) _ e in
    let bounds = split (nat_lt 0 (length word)) (nat_lt (digits_value 10 word) (2 ^ 64)) both.1 in
    record { digits = both.0; some = ltb-true _ _ bounds.0; fits = ltb-true _ _ bounds.1 }

abbrev Read : List ℕ → Type 0
Read word = (all_ascii_digits word ≡ true) × (0 < length word) × (digits_value 10 word < 2 ^ 64)

-- what is read does not depend on the error that says that nothing is
abbrev Parses : List ℕ → Result ℕ (Unit {0}) → Type 0
Parses word r = ParsesUnsigned 64 10 word r

module _ (word : List ℕ) (plain : (slice_index word 0 == 43) ≡ false) where
  told : (r : Result ℕ (Unit {0})) → Parses word r → OkIff r (Read word) (digits_value 10 word)
  told r parsed = parse_plain (numerals_by_value _ tells_all_ascii_digits) 64 word r parsed (λ is. let no : ⊥ = grind (arith, plain, is) in no)

  pub read : (n : ℕ) → Parses word (Ok n) → Some n ≡ number_of word
  unfolding number_of
  read n parsed =
      let it = told (Ok n) parsed in
      rw (it.1, it.0.0, lt-ltb 0 (length word) it.0.1, lt-ltb (digits_value 10 word) (2 ^ 64) it.0.2) refl

  pub failed : Parses word (Err tt) → None ≡ number_of word
  unfolding number_of
  failed parsed = by_bool (is_number word) _ (λ e. let it = written word e in told (Err tt) parsed (it.digits, it.some, it.fits))
