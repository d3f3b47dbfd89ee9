-- What std reads of a word is the number of blank lines that it gives.
use Rattle.std.proofs.Common.{◌≡◌, ◌≤◌, ◌<◌, ℕ, true, false, List, [], ◌∷◌, length, Some, None, Ok, Err, refl, arith}
use Rattle.std.specs.Prelude.{◌==◌, nat_le, nat_lt, slice_index}
use Rattle.std.specs.Str.{all_ascii_digits}
use Rattle.std.specs.Str.Parse.{digits_value}
use Rattle.std.proofs.lemmas.Bool.{le-leb, leb-true, lt-ltb, ltb-true}
use Rattle.meson_json.specs.Codes.{blank_of, is_blank_count, max_blank_lines}
use Rattle.meson_json.proofs.Counting.{Parses, by_bool, split, told}

-- a plus is no digit
pub plus : (word : List ℕ) → (slice_index word 0 == 43) ≡ true → None ≡ blank_of word
unfolding blank_of
plus [] e = refl
plus (c ∷ cs) e = let is : c ≡ 43 = grind (arith, e) in rw is refl

record Blanks (word : List ℕ) : Type 0 where
  digits : all_ascii_digits word ≡ true
  some : 0 < length word
  few : digits_value 10 word ≤ 100

blanks : (word : List ℕ) → is_blank_count word ≡ true → Blanks word
blanks word e =
    let both = split (all_ascii_digits word) _ e in
    let bounds = split (nat_lt 0 (length word)) (nat_le (digits_value 10 word) max_blank_lines) both.1 in
    record { digits = both.0; some = ltb-true _ _ bounds.0; few = leb-true _ _ bounds.1 }

module _ (word : List ℕ) (plain : (slice_index word 0 == 43) ≡ false) where
  pub many : (n : ℕ) → 100 < n → Parses word (Ok n) → None ≡ blank_of word
  unfolding blank_of
  many n over parsed = by_bool (is_blank_count word) _ (λ e. let is = (told word plain (Ok n) parsed).1 in let few = (blanks word e).few in omega (arith, is, few, over))

  pub one : (n : ℕ) → n ≤ 100 → Parses word (Ok n) → Some n ≡ blank_of word
  unfolding blank_of
  one n few parsed =
      let read = told word plain (Ok n) parsed in
      rw (read.1, read.0.0, lt-ltb 0 (length word) read.0.1, le-leb (digits_value 10 word) max_blank_lines (omega (arith, read.1, few))) refl

  pub failed : Parses word (Err tt) → None ≡ blank_of word
  unfolding blank_of
  failed parsed =
      by_bool (is_blank_count word) _ (λ e. let it = blanks word e in let few = it.few in told word plain (Err tt) parsed (it.digits, it.some, omega (arith, few)))
