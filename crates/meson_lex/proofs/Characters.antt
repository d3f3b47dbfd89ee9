-- The bytes of a text and the characters that they spell: both begin with the same ASCII.
use Rattle.std.proofs.Common.{◌≡◌, ℕ, suc, zero, ◌<◌, ◌≤◌, ◌⊎◌, Bool, true, false, cond, ltb, List, [], ◌∷◌, ◌++◌, length, take, drop, IsUtf8, chars, encode_utf8_all, sym, refl, ap, ◌∙◌, subst, arith, ⊎_elim, inl, inr}
use lib.Utf8.{scalar}
use Rattle.std.specs.List.{take_while}
use Rattle.std.specs.Str.{all_scalars}
use Rattle.std.proofs.lemmas.Bool.{cond-false, cond_both, and_parts, ltb-true, ltb-false, false_from_ne_true, cases_Bool}
use Rattle.std.proofs.lemmas.List.Sums.{take_while-cons}
use Rattle.std.proofs.lemmas.Str.{chars-nil, chars-encodes, char_from_byte, encode_ascii}
use Rattle.meson_lex.specs.Bytes.{begins}

-- the first byte is a character
pub record AsciiFirst (b : ℕ) (bs : List ℕ) : Type 0 where
  pub low : b < 128
  pub chars_are : chars (b ∷ bs) ≡ b ∷ chars bs
  pub rest : IsUtf8 bs

-- it is a part of one
pub record WideFirst (b : ℕ) (bs : List ℕ) : Type 0 where
  pub high : 128 ≤ b
  pub first : ℕ
  pub others : List ℕ
  pub chars_are : chars (b ∷ bs) ≡ first ∷ others
  pub first_high : 128 ≤ first

pub low_or_high : (c : ℕ) → (c < 128) ⊎ (128 ≤ c)
low_or_high c = ⊎_elim (λ below. inl (ltb-true c 128 below)) (λ above. inr (ltb-false c 128 above)) (cases_Bool (ltb c 128))

first_of : (b : ℕ) (bs cs : List ℕ) → all_scalars cs ≡ true → encode_utf8_all cs ≡ b ∷ bs → AsciiFirst b bs ⊎ WideFirst b bs
first_of b bs [] scalars spells = absurd (cc)
first_of b bs (c ∷ cs) scalars spells =
    let whole : chars (b ∷ bs) ≡ c ∷ cs = ap chars (sym spells) ∙ chars-encodes (c ∷ cs) scalars in
    let later : all_scalars cs ≡ true = (and_parts (scalar c) (all_scalars cs) scalars).1 in
    ⊎_elim
    (λ low.
    let one : c ∷ encode_utf8_all cs ≡ b ∷ bs = ap (λ l. l ++ encode_utf8_all cs) (sym (encode_ascii c low)) ∙ spells in
    let same : c ≡ b = cc in
    let rest : encode_utf8_all cs ≡ bs = cc in
    inl (record {
      low = subst (λ x. x < 128) same low;
      chars_are = whole ∙ ap (λ x. x ∷ cs) same ∙ ap (λ l. b ∷ l) (sym (ap chars (sym rest) ∙ chars-encodes cs later));
      rest = (cs, (later, rest));
    }))
    (λ high. inr (record {
      high = ⊎_elim (λ low. let same = char_from_byte (b ∷ bs) (encode_utf8_all cs) c (sym spells) low (omega arith) in absurd (omega (arith, same, high, low))) (λ h. h) (low_or_high b);
      first = c;
      others = cs;
      chars_are = whole;
      first_high = high;
    }))
    (low_or_high c)

-- a text that is not empty begins in one of two ways
pub first_char : (b : ℕ) (bs : List ℕ) → IsUtf8 (b ∷ bs) → AsciiFirst b bs ⊎ WideFirst b bs
first_char b bs u = first_of b bs u.0 u.1.0 u.1.1

-- ---- tests that ASCII alone passes

module _ (test : ℕ → Bool) (low : (b : ℕ) → test b ≡ true → b < 128) where
  -- what is no ASCII fails
  pub fails_high : (c : ℕ) → 128 ≤ c → test c ≡ false
  fails_high c high = false_from_ne_true _ (λ passes. let l = low c passes in absurd (omega (arith, l, high)))

  pub begins_chars : (bs : List ℕ) → IsUtf8 bs → begins test (chars bs) ≡ begins test bs
  begins_chars [] u = ap (begins test) chars-nil
  begins_chars (b ∷ bs) u =
      ⊎_elim
      (λ a. ap (begins test) a.chars_are)
      (λ w. ap (begins test) w.chars_are ∙ fails_high w.first w.first_high ∙ sym (fails_high b w.high))
      (first_char b bs u)

  -- the first few that pass are the same
  pub run_chars : (n : ℕ) (bs : List ℕ) → IsUtf8 bs → take_while test (take n (chars bs)) ≡ take_while test (take n bs)
  run_chars zero bs u = refl
  run_chars (suc n) [] u = ap (λ l. take_while test (take (suc n) l)) chars-nil
  run_chars (suc n) (b ∷ bs) u =
      ⊎_elim
      (λ a.
      ap (λ l. take_while test (take (suc n) l)) a.chars_are ∙ take_while-cons test b (take n (chars bs))
      ∙ ap (λ l. cond (test b) (b ∷ l) []) (run_chars n bs a.rest) ∙ sym (take_while-cons test b (take n bs)))
      (λ w.
      ap (λ l. take_while test (take (suc n) l)) w.chars_are ∙ take_while-cons test w.first (take n w.others) ∙ cond-false (test w.first) _ _ (fails_high w.first w.first_high)
      ∙ sym (take_while-cons test b (take n bs) ∙ cond-false (test b) _ _ (fails_high b w.high)))
      (first_char b bs u)

-- ---- where a text may be cut

-- behind n bytes a character begins, the one behind n characters
pub record Cuts (bs : List ℕ) (n : ℕ) : Type 0 where
  pub within : n ≤ length bs
  pub rest : IsUtf8 (drop n bs)
  pub same : chars (drop n bs) ≡ drop n (chars bs)

pub cuts_none : (bs : List ℕ) → IsUtf8 bs → Cuts bs 0
cuts_none bs u = record { within = omega arith; rest = u; same = refl }

-- an ASCII character more
pub cuts_more : (b : ℕ) (bs : List ℕ) (n : ℕ) → AsciiFirst b bs → Cuts bs n → Cuts (b ∷ bs) (suc n)
cuts_more b bs n a h = record { within = omega (arith, h.within); rest = h.rest; same = h.same ∙ ap (drop (suc n)) (sym a.chars_are) }

pub cuts_run : (test : ℕ → Bool) → ((b : ℕ) → test b ≡ true → b < 128) → (n : ℕ) (bs : List ℕ) → IsUtf8 bs → Cuts bs (length (take_while test (take n bs)))
cuts_run test low zero bs u = cuts_none bs u
cuts_run test low (suc n) [] u = cuts_none [] u
cuts_run test low (suc n) (b ∷ bs) u =
    subst (λ l. Cuts (b ∷ bs) (length l)) (sym (take_while-cons test b (take n bs)))
    (cond_both (test b) _ _ (λ l. Cuts (b ∷ bs) (length l))
    (λ passes.
    ⊎_elim
    (λ a. cuts_more b bs (length (take_while test (take n bs))) a (cuts_run test low n bs a.rest))
    (λ w. let l = low b passes in absurd (omega (arith, l, w.high)))
    (first_char b bs u))
    (λ _. cuts_none (b ∷ bs) u))
