-- An escape is the same on a text's bytes and on its characters, and behind it the text may be cut.
use Rattle.std.proofs.Common.{◌≡◌, ℕ, suc, ◌+◌, ◌<◌, ◌≤◌, ◌==◌, true, false, eqb, ◌&&◌, List, [], ◌∷◌, length, take, Option, Some, None, IsUtf8, chars, sym, ap, ◌∙◌, subst, arith, ⊎_elim}
use Rattle.std.specs.Prelude.{if◌then◌else◌}
use Rattle.std.specs.List.{take_while}
use Rattle.std.specs.Str.Parse.{digits_value}
use Rattle.std.proofs.lemmas.Bool.{cond-false, cond_both, and_left, eqb-true, ne_eqb}
use Rattle.std.proofs.lemmas.Str.{chars-nil}
use Rattle.meson_lex.specs.declared.escapes.Escaped.{Escaped}
use Rattle.meson_lex.specs.Bytes.{is_octal, is_hexadecimal, begins}
use Rattle.meson_lex.specs.Literals.{kept_backslash, letter_escape, is_scalar, character_of, octal_escape, hexadecimal_escape, escape}
use Rattle.meson_lex.proofs.Characters.{AsciiFirst, first_char, fails_high, begins_chars, run_chars, Cuts, cuts_none, cuts_more, cuts_run}
use Rattle.meson_lex.proofs.Digits.{octal_low, hexadecimal_low}

-- ---- what is no ASCII

apart : (c n : ℕ) → 128 ≤ c → n < 128 → eqb c n ≡ false
apart c n high low = ne_eqb c n (λ e. absurd (omega (arith, e)))

high_letter : (c : ℕ) → 128 ≤ c → letter_escape c ≡ kept_backslash
high_letter c high =
    cond-false (eqb c 92) _ _ (apart c 92 high (omega arith)) ∙ cond-false (eqb c 39) _ _ (apart c 39 high (omega arith))
    ∙ cond-false (eqb c 97) _ _ (apart c 97 high (omega arith)) ∙ cond-false (eqb c 98) _ _ (apart c 98 high (omega arith))
    ∙ cond-false (eqb c 102) _ _ (apart c 102 high (omega arith)) ∙ cond-false (eqb c 110) _ _ (apart c 110 high (omega arith))
    ∙ cond-false (eqb c 114) _ _ (apart c 114 high (omega arith)) ∙ cond-false (eqb c 116) _ _ (apart c 116 high (omega arith))
    ∙ cond-false (eqb c 118) _ _ (apart c 118 high (omega arith))

-- the backslash before it stays
pub high_escape : (c : ℕ) (cs : List ℕ) → 128 ≤ c → escape (c ∷ cs) ≡ Some kept_backslash
high_escape c cs high =
    cond-false (is_octal c) _ _ (fails_high is_octal octal_low c high)
    ∙ cond-false (eqb c 120) _ _ (apart c 120 high (omega arith)) ∙ cond-false (eqb c 117) _ _ (apart c 117 high (omega arith))
    ∙ cond-false (eqb c 85) _ _ (apart c 85 high (omega arith)) ∙ cond-false (eqb c 78 && begins (λ d. d == 123) cs) _ _ (and_left _ _ (apart c 78 high (omega arith)))
    ∙ ap Some (high_letter c high)

-- ---- bytes and characters

brace_low : (b : ℕ) → eqb b 123 ≡ true → b < 128
brace_low b h = let e : b ≡ 123 = eqb-true b 123 h in omega (arith, e)

same_escape : (b : ℕ) (bs : List ℕ) → AsciiFirst b bs → IsUtf8 (b ∷ bs) → escape (b ∷ chars bs) ≡ escape (b ∷ bs)
same_escape b bs a u =
    let octal : take_while is_octal (take 3 (b ∷ chars bs)) ≡ take_while is_octal (take 3 (b ∷ bs)) =
    ap (λ l. take_while is_octal (take 3 l)) (sym a.chars_are) ∙ run_chars is_octal octal_low 3 (b ∷ bs) u in
    let two = run_chars is_hexadecimal hexadecimal_low 2 bs a.rest in
    let four = run_chars is_hexadecimal hexadecimal_low 4 bs a.rest in
    let eight = run_chars is_hexadecimal hexadecimal_low 8 bs a.rest in
    let brace = begins_chars (λ d. d == 123) brace_low bs a.rest in
    (λ i.
    if is_octal b then octal_escape (octal i)
    else (if b == 120 then hexadecimal_escape 2 (two i)
    else (if b == 117 then hexadecimal_escape 4 (four i)
    else (if b == 85 then hexadecimal_escape 8 (eight i)
    else (if b == 78 && brace i then None
    else Some (letter_escape b))))))

pub escape_chars : (bs : List ℕ) → IsUtf8 bs → escape (chars bs) ≡ escape bs
escape_chars [] u = ap escape chars-nil
escape_chars (b ∷ bs) u =
    ⊎_elim
    (λ a. ap escape a.chars_are ∙ same_escape b bs a u)
    (λ w. ap escape w.chars_are ∙ high_escape w.first w.others w.first_high ∙ sym (high_escape b bs w.high))
    (first_char b bs u)

-- ---- what an escape takes

abbrev pub CutsAfter : List ℕ → Option Escaped → Type 0
CutsAfter bs None = Unit {0}
CutsAfter bs (Some e) = Cuts bs e.taken

numbered_cuts : (bs : List ℕ) (n taken : ℕ) → Cuts bs taken → CutsAfter bs (character_of n taken)
numbered_cuts bs n taken cuts = cond_both (is_scalar n) _ _ (CutsAfter bs) (λ _. cuts) (λ _. tt)

hexadecimal_cuts : (b : ℕ) (bs : List ℕ) (wanted : ℕ) → AsciiFirst b bs → IsUtf8 (b ∷ bs) → CutsAfter (b ∷ bs) (hexadecimal_escape wanted (take_while is_hexadecimal (take wanted bs)))
hexadecimal_cuts b bs wanted a u =
    let digits : List ℕ = take_while is_hexadecimal (take wanted bs) in
    cond_both (eqb (length digits) wanted) _ _ (CutsAfter (b ∷ bs))
    (λ all.
    let count : suc (length digits) ≡ wanted + 1 = let e = eqb-true (length digits) wanted all in omega (arith, e) in
    numbered_cuts (b ∷ bs) (digits_value 16 digits) (wanted + 1) (subst (Cuts (b ∷ bs)) count (cuts_more b bs (length digits) a (cuts_run is_hexadecimal hexadecimal_low wanted bs a.rest))))
    (λ _. cuts_none (b ∷ bs) u)

letter_cuts : (b : ℕ) (bs : List ℕ) → AsciiFirst b bs → IsUtf8 (b ∷ bs) → Cuts (b ∷ bs) (letter_escape b).taken
letter_cuts b bs a u =
    let P : Escaped → Type 0 = λ e. Cuts (b ∷ bs) e.taken in
    let one : Cuts (b ∷ bs) 1 = cuts_more b bs 0 a (cuts_none bs a.rest) in
    cond_both (eqb b 92) _ _ P (λ _. one) (λ _. cond_both (eqb b 39) _ _ P (λ _. one) (λ _. cond_both (eqb b 97) _ _ P (λ _. one)
    (λ _. cond_both (eqb b 98) _ _ P (λ _. one) (λ _. cond_both (eqb b 102) _ _ P (λ _. one) (λ _. cond_both (eqb b 110) _ _ P (λ _. one)
    (λ _. cond_both (eqb b 114) _ _ P (λ _. one) (λ _. cond_both (eqb b 116) _ _ P (λ _. one) (λ _. cond_both (eqb b 118) _ _ P (λ _. one)
    (λ _. cuts_none (b ∷ bs) u)))))))))

ascii_cuts : (b : ℕ) (bs : List ℕ) → AsciiFirst b bs → IsUtf8 (b ∷ bs) → CutsAfter (b ∷ bs) (escape (b ∷ bs))
ascii_cuts b bs a u =
    let P : Option Escaped → Type 0 = CutsAfter (b ∷ bs) in
    cond_both (is_octal b) _ _ P (λ _. let digits : List ℕ = take_while is_octal (take 3 (b ∷ bs)) in numbered_cuts (b ∷ bs) (digits_value 8 digits) (length digits) (cuts_run is_octal octal_low 3 (b ∷ bs) u))
    (λ _. cond_both (eqb b 120) _ _ P (λ _. hexadecimal_cuts b bs 2 a u)
    (λ _. cond_both (eqb b 117) _ _ P (λ _. hexadecimal_cuts b bs 4 a u)
    (λ _. cond_both (eqb b 85) _ _ P (λ _. hexadecimal_cuts b bs 8 a u)
    (λ _. cond_both (eqb b 78 && begins (λ d. d == 123) bs) _ _ P (λ _. tt)
    (λ _. letter_cuts b bs a u)))))

pub escape_cuts : (bs : List ℕ) → IsUtf8 bs → CutsAfter bs (escape bs)
escape_cuts [] u = cuts_none [] u
escape_cuts (b ∷ bs) u =
    ⊎_elim
    (λ a. ascii_cuts b bs a u)
    (λ w. subst (CutsAfter (b ∷ bs)) (sym (high_escape b bs w.high)) (cuts_none (b ∷ bs) u))
    (first_char b bs u)
