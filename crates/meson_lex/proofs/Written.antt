-- What is written for a text: one plain string, which stands for that text.
use Rattle.std.proofs.Common.{◌≡◌, ℕ, ◌+◌, ◌/◌, ◌%◌, ◌<◌, ◌≤◌, Bool, true, false, not, eqb, ltb, leb, ◌&&◌, ◌||◌, List, [], ◌∷◌, ◌++◌, codes, Some, None, option_map, flat_map, IsUtf8, encode_utf8_all, sym, refl, ap, ◌∙◌, subst, arith, ⊎_elim, inl, inr, append_assoc}
use lib.Utf8.{low_scalar}
use Rattle.std.specs.Char.{encode_utf8, digit_char}
use Rattle.std.specs.List.{list_all, take_while}
use Rattle.std.specs.Str.{chars, all_scalars}
use Rattle.std.specs.Str.Parse.{digits_value}
use Rattle.std.proofs.lemmas.Bool.{cond-true, cond-false, cond_both, and_from, and_parts, or_from, or_left, or_cases, eqb-true, eqb-false, ltb-true, leb-true, lt-ltb, le-ltb, le-leb, ne_eqb, agree_below_at}
use Rattle.std.proofs.lemmas.Grind.{flat_map-append}
use Rattle.std.proofs.lemmas.List.{append-nil}
use Rattle.std.proofs.lemmas.List.Folds.{list_all-append}
use Rattle.std.proofs.lemmas.List.Sums.{take_while-cons}
use Rattle.std.proofs.lemmas.Str.{chars-encodes, encodes-append, encode_ascii, IsUtf8-append}
use Rattle.meson_lex.specs.declared.kinds.Kind.TheVariants.{PlainString}
use Rattle.meson_lex.specs.Bytes.{is_hexadecimal, first_bare_return}
use Rattle.meson_lex.specs.Kinds.{IsQuotedRest, IsString}
use Rattle.meson_lex.specs.Literals.{written_byte, literal, is_scalar, character_of, hexadecimal_escape, escape, escape_taken, before, unescaped_after, unescaped, value}
use Rattle.meson_lex.proofs.Characters.{low_or_high}
use Rattle.meson_lex.proofs.FrontComplete.{apart}
use Rattle.meson_lex.proofs.Runs.{none_bare}
use Rattle.meson_lex.proofs.Values.{IsEnclosed, one_quote, plain_text}

-- ---- the two digits of a control character

abbrev control : ℕ → Bool
control c = ltb c 32 || eqb c 127

control_low : (c : ℕ) → control c ≡ true → c < 128
control_low c h =
    ⊎_elim (λ l. let s : c < 32 = ltb-true c 32 l in omega (arith, s)) (λ e. let s : c ≡ 127 = eqb-true c 127 e in omega (arith, s)) (or_cases _ _ h)

abbrev high_digit : ℕ → ℕ
high_digit c = digit_char (c / 16)

abbrev low_digit : ℕ → ℕ
low_digit c = digit_char (c % 16)

abbrev digits_good : ℕ → Bool
digits_good c = is_hexadecimal (high_digit c) && (is_hexadecimal (low_digit c) && eqb (digits_value 16 (high_digit c ∷ low_digit c ∷ [])) c)

record Digits (c : ℕ) : Type 0 where
  high : is_hexadecimal (high_digit c) ≡ true
  low : is_hexadecimal (low_digit c) ≡ true
  is : digits_value 16 (high_digit c ∷ low_digit c ∷ []) ≡ c

digits_of : (c : ℕ) → control c ≡ true → Digits c
digits_of c h =
    let good : digits_good c ≡ true = agree_below_at digits_good (λ _. true) 128 c refl (control_low c h) in
    let parts = and_parts (is_hexadecimal (high_digit c)) _ good in
    let more = and_parts (is_hexadecimal (low_digit c)) _ parts.1 in
    record { high = parts.0; low = more.0; is = eqb-true _ c more.1 }

-- ---- read back

control_escape : (c : ℕ) (cs : List ℕ) → control c ≡ true → escape (120 ∷ high_digit c ∷ low_digit c ∷ cs) ≡ Some (record { character = c; taken = 3 })
control_escape c cs h =
    let d = digits_of c h in
    let run : take_while is_hexadecimal (high_digit c ∷ low_digit c ∷ []) ≡ high_digit c ∷ low_digit c ∷ [] =
    take_while-cons is_hexadecimal (high_digit c) (low_digit c ∷ []) ∙ cond-true (is_hexadecimal (high_digit c)) _ _ d.high
    ∙ ap (λ l. high_digit c ∷ l) (take_while-cons is_hexadecimal (low_digit c) [] ∙ cond-true (is_hexadecimal (low_digit c)) _ _ d.low) in
    let low = control_low c h in
    let scalar : is_scalar c ≡ true = or_left _ _ (lt-ltb c 55296 (omega (arith, low))) in
    ap (hexadecimal_escape 2) run ∙ ap (λ n. character_of n 3) d.is ∙ cond-true (is_scalar c) _ _ scalar

reads_back : (c : ℕ) (cs : List ℕ) → unescaped (written_byte c ++ cs) ≡ option_map (λ l. c ∷ l) (unescaped cs)
reads_back c cs =
    let P : List ℕ → Type 0 = λ w. unescaped (w ++ cs) ≡ option_map (λ l. c ∷ l) (unescaped cs) in
    let same : (n : ℕ) → eqb c n ≡ true → option_map (λ l. n ∷ l) (unescaped cs) ≡ option_map (λ l. c ∷ l) (unescaped cs) = λ n e. ap (λ x. option_map (λ l. x ∷ l) (unescaped cs)) (sym (eqb-true c n e)) in
    cond_both (eqb c 39) _ _ P (λ e. same 39 e)
    (λ _. cond_both (eqb c 92) _ _ P (λ e. same 92 e)
    (λ f. cond_both (eqb c 10) _ _ P (λ e. same 10 e)
    (λ _. cond_both (eqb c 13) _ _ P (λ e. same 13 e)
    (λ _. cond_both (eqb c 9) _ _ P (λ e. same 9 e)
    (λ _. cond_both (control c) _ _ P
    (λ e. ap (λ o. before o (unescaped_after (escape_taken o) (120 ∷ high_digit c ∷ low_digit c ∷ cs))) (control_escape c cs e))
    (λ _. cond-false (eqb c 92) _ _ f))))))

written_reads : (cs : List ℕ) → unescaped (flat_map written_byte cs) ≡ Some cs
written_reads [] = refl
written_reads (c ∷ cs) = reads_back c (flat_map written_byte cs) ∙ ap (option_map (λ l. c ∷ l)) (written_reads cs)

-- ---- bytes and characters

abbrev is_low : ℕ → Bool
is_low b = ltb b 128

written_low : (c : ℕ) → c < 128 → list_all is_low (written_byte c) ≡ true
written_low c low = agree_below_at (λ b. list_all is_low (written_byte b)) (λ _. true) 128 c refl low

away : (c n : ℕ) → 128 ≤ c → n < 128 → eqb c n ≡ false
away c n high low = ne_eqb c n (λ e. absurd (omega (arith, e)))

written_high : (c : ℕ) → 128 ≤ c → written_byte c ≡ c ∷ []
written_high c high =
    cond-false (eqb c 39) _ _ (away c 39 high (omega arith)) ∙ cond-false (eqb c 92) _ _ (away c 92 high (omega arith)) ∙ cond-false (eqb c 10) _ _ (away c 10 high (omega arith))
    ∙ cond-false (eqb c 13) _ _ (away c 13 high (omega arith)) ∙ cond-false (eqb c 9) _ _ (away c 9 high (omega arith))
    ∙ cond-false (control c) _ _ (or_from _ _ (le-ltb c 32 (omega arith)) (away c 127 high (omega arith)))

low_encodes : (l : List ℕ) → list_all is_low l ≡ true → encode_utf8_all l ≡ l
low_encodes [] h = refl
low_encodes (c ∷ cs) h =
    let parts = and_parts (is_low c) (list_all is_low cs) h in
    ap (λ l. l ++ encode_utf8_all cs) (encode_ascii c (ltb-true c 128 parts.0)) ∙ ap (λ l. c ∷ l) (low_encodes cs parts.1)

low_scalars : (l : List ℕ) → list_all is_low l ≡ true → all_scalars l ≡ true
low_scalars [] h = refl
low_scalars (c ∷ cs) h =
    let parts = and_parts (is_low c) (list_all is_low cs) h in
    let low : c < 128 = ltb-true c 128 parts.0 in
    and_from _ _ (low_scalar c (omega (arith, low))) (low_scalars cs parts.1)

high_same : (l : List ℕ) → list_all (λ b. leb 128 b) l ≡ true → flat_map written_byte l ≡ l
high_same [] h = refl
high_same (c ∷ cs) h =
    let parts = and_parts (leb 128 c) (list_all (λ b. leb 128 b) cs) h in
    ap (λ w. w ++ flat_map written_byte cs) (written_high c (leb-true 128 c parts.0)) ∙ ap (λ l. c ∷ l) (high_same cs parts.1)

encode_high : (c : ℕ) → 128 ≤ c → list_all (λ b. leb 128 b) (encode_utf8 c) ≡ true
unfolding encode_utf8
encode_high c high =
    let P : List ℕ → Type 0 = λ l. list_all (λ b. leb 128 b) l ≡ true in
    let at : (n m : ℕ) → 128 ≤ n → leb 128 (n + m) ≡ true = λ n m h. le-leb 128 (n + m) (omega arith) in
    let next : (m : ℕ) → leb 128 (128 + m) ≡ true = λ m. at 128 m (omega arith) in
    subst P (sym (cond-false (ltb c 128) _ _ (le-ltb c 128 high)))
    (cond_both (ltb c 2048) _ _ P
    (λ _. and_from _ _ (at 192 (c / 64) (omega arith)) (and_from _ _ (next (c % 64)) refl))
    (λ _. cond_both (ltb c 65536) _ _ P
    (λ _. and_from _ _ (at 224 (c / 4096) (omega arith)) (and_from _ _ (next (c / 64 % 64)) (and_from _ _ (next (c % 64)) refl)))
    (λ _. and_from _ _ (at 240 (c / 262144) (omega arith)) (and_from _ _ (next (c / 4096 % 64)) (and_from _ _ (next (c / 64 % 64)) (and_from _ _ (next (c % 64)) refl))))))

encode_written : (c : ℕ) → flat_map written_byte (encode_utf8 c) ≡ encode_utf8_all (written_byte c)
encode_written c =
    ⊎_elim
    (λ low. ap (flat_map written_byte) (encode_ascii c low) ∙ append-nil (written_byte c) ∙ sym (low_encodes (written_byte c) (written_low c low)))
    (λ high. high_same (encode_utf8 c) (encode_high c high) ∙ sym (append-nil (encode_utf8 c)) ∙ ap encode_utf8_all (sym (written_high c high)))
    (low_or_high c)

written_encodes : (cs : List ℕ) → flat_map written_byte (encode_utf8_all cs) ≡ encode_utf8_all (flat_map written_byte cs)
written_encodes [] = refl
written_encodes (c ∷ cs) =
    flat_map-append written_byte (encode_utf8 c) (encode_utf8_all cs) ∙ ap (λ l. l ++ flat_map written_byte (encode_utf8_all cs)) (encode_written c)
    ∙ ap (λ l. encode_utf8_all (written_byte c) ++ l) (written_encodes cs) ∙ sym (encodes-append (written_byte c) (flat_map written_byte cs))

scalars_append : (xs ys : List ℕ) → all_scalars xs ≡ true → all_scalars ys ≡ true → all_scalars (xs ++ ys) ≡ true
scalars_append [] ys h g = g
scalars_append (x ∷ xs) ys h g = let parts = and_parts _ (all_scalars xs) h in and_from _ _ parts.0 (scalars_append xs ys parts.1 g)

written_scalars : (cs : List ℕ) → all_scalars cs ≡ true → all_scalars (flat_map written_byte cs) ≡ true
written_scalars [] h = refl
written_scalars (c ∷ cs) h =
    let parts = and_parts _ (all_scalars cs) h in
    scalars_append (written_byte c) (flat_map written_byte cs)
    (⊎_elim (λ low. low_scalars (written_byte c) (written_low c low)) (λ high. ap all_scalars (written_high c high) ∙ and_from _ _ parts.0 refl) (low_or_high c))
    (written_scalars cs parts.1)

-- ---- a written literal

pub literal_enclosed : (text : List ℕ) → IsEnclosed (codes "'") (literal text)
literal_enclosed text = record { inner = flat_map written_byte text; joins = refl }

inner_text : (text : List ℕ) → IsUtf8 text → IsUtf8 (flat_map written_byte text)
inner_text text u = (flat_map written_byte u.0, (written_scalars u.0 u.1.0, sym (written_encodes u.0) ∙ ap (flat_map written_byte) u.1.1))

pub literal_value : (text : List ℕ) → IsUtf8 text → value PlainString (literal text) ≡ Some text
unfolding literal_enclosed
literal_value text u =
    let inside : chars (flat_map written_byte text) ≡ flat_map written_byte u.0 =
    ap (λ t. chars (flat_map written_byte t)) (sym u.1.1) ∙ ap chars (written_encodes u.0) ∙ chars-encodes (flat_map written_byte u.0) (written_scalars u.0 u.1.0) in
    plain_text (literal text) (literal_enclosed text) (inner_text text u)
    ∙ ap (λ l. option_map encode_utf8_all (unescaped l)) inside ∙ ap (option_map encode_utf8_all) (written_reads u.0) ∙ ap Some u.1.1

pub literal_text : (text : List ℕ) → IsUtf8 text → IsUtf8 (literal text)
literal_text text u = IsUtf8-append (codes "'") (flat_map written_byte text ++ codes "'") one_quote (IsUtf8-append (flat_map written_byte text) (codes "'") (inner_text text u) one_quote)

-- a byte that is neither a quote nor a backslash
plain_closes : (b : ℕ) (rest : List ℕ) → (b ≡ 39 → ⊥) → (b ≡ 92 → ⊥) → IsQuotedRest rest → IsQuotedRest (b ∷ rest)
plain_closes b [] quote slash h = absurd h
plain_closes b (c ∷ cs) quote slash h = inr (quote, slash, h)

digit_closes : (b : ℕ) (rest : List ℕ) → is_hexadecimal b ≡ true → IsQuotedRest rest → IsQuotedRest (b ∷ rest)
digit_closes b rest digit h = plain_closes b rest (eqb-false b 39 (apart is_hexadecimal b 39 digit refl)) (eqb-false b 92 (apart is_hexadecimal b 92 digit refl)) h

written_closes : (c : ℕ) (rest : List ℕ) → IsQuotedRest rest → IsQuotedRest (written_byte c ++ rest)
written_closes c rest h =
    let P : List ℕ → Type 0 = λ w. IsQuotedRest (w ++ rest) in
    cond_both (eqb c 39) _ _ P (λ _. inl (refl, h))
    (λ quote. cond_both (eqb c 92) _ _ P (λ _. inl (refl, h))
    (λ slash. cond_both (eqb c 10) _ _ P (λ _. inl (refl, h))
    (λ _. cond_both (eqb c 13) _ _ P (λ _. inl (refl, h))
    (λ _. cond_both (eqb c 9) _ _ P (λ _. inl (refl, h))
    (λ _. cond_both (control c) _ _ P
    (λ e. let d = digits_of c e in inl (refl, digit_closes (high_digit c) (low_digit c ∷ rest) d.high (digit_closes (low_digit c) rest d.low h)))
    (λ _. plain_closes c rest (eqb-false c 39 quote) (eqb-false c 92 slash) h))))))

text_closes : (text : List ℕ) → IsQuotedRest (flat_map written_byte text ++ 39 ∷ [])
text_closes [] = refl
text_closes (c ∷ cs) = subst IsQuotedRest (sym (append_assoc (written_byte c) (flat_map written_byte cs) (39 ∷ []))) (written_closes c (flat_map written_byte cs ++ 39 ∷ []) (text_closes cs))

pub literal_string : (text : List ℕ) → IsString PlainString (literal text)
literal_string text = record { rest = flat_map written_byte text ++ 39 ∷ []; joins = refl; closed = text_closes text }

-- ---- no CR

abbrev no_return : ℕ → Bool
no_return b = not (eqb b 13)

written_return : (c : ℕ) → list_all no_return (written_byte c) ≡ true
written_return c =
    let P : List ℕ → Type 0 = λ w. list_all no_return w ≡ true in
    cond_both (eqb c 39) _ _ P (λ _. refl)
    (λ _. cond_both (eqb c 92) _ _ P (λ _. refl)
    (λ _. cond_both (eqb c 10) _ _ P (λ _. refl)
    (λ _. cond_both (eqb c 13) _ _ P (λ _. refl)
    (λ other. cond_both (eqb c 9) _ _ P (λ _. refl)
    (λ _. cond_both (control c) _ _ P
    (λ e. let d = digits_of c e in and_from _ _ (ap not (apart is_hexadecimal (high_digit c) 13 d.high refl)) (and_from _ _ (ap not (apart is_hexadecimal (low_digit c) 13 d.low refl)) refl))
    (λ _. and_from _ _ (ap not other) refl))))))

all_append : (test : ℕ → Bool) (xs ys : List ℕ) → list_all test xs ≡ true → list_all test ys ≡ true → list_all test (xs ++ ys) ≡ true
all_append test xs ys h g = list_all-append test xs ys ∙ and_from _ _ h g

text_return : (text : List ℕ) → list_all no_return (flat_map written_byte text) ≡ true
text_return [] = refl
text_return (c ∷ cs) = all_append no_return (written_byte c) (flat_map written_byte cs) (written_return c) (text_return cs)

pub literal_return : (text : List ℕ) → first_bare_return (literal text) ≡ None
literal_return text = none_bare no_return refl (literal text) (all_append no_return (flat_map written_byte text) (39 ∷ []) (text_return text) refl)
