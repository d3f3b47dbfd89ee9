-- The value of a string, by what stands between its quotes.
use Rattle.std.proofs.Common.{◌≡◌, ℕ, ◌+◌, ◌-◌, ◌*◌, ◌<◌, ◌≤◌, List, [], ◌∷◌, ◌++◌, length, take, drop, get_or, codes, Some, None, option_map, IsUtf8, encode_utf8_all, sym, refl, ap, ◌∙◌, subst, arith, ⊎_elim, length-append, lit<}
use Rattle.std.specs.Char.{encode_utf8}
use Rattle.std.specs.Str.{chars, is_utf8}
use Rattle.std.proofs.Math.Seq.{get_or-append_seam}
use Rattle.std.proofs.lemmas.Bool.{cond-true, cond-false, false_from_ne_true}
use Rattle.std.proofs.lemmas.List.{take_at, drop_at}
use Rattle.std.proofs.lemmas.Str.{chars-append, encodes-chars, is_utf8-from_IsUtf8, IsUtf8-from_is_utf8, IsUtf8-append, IsUtf8-take, IsCharBoundary-before_ascii}
use Rattle.meson_lex.specs.declared.kinds.Kind.{Kind}
use Rattle.meson_lex.specs.declared.kinds.Kind.TheVariants.{PlainString, MultilineString}
use Rattle.meson_lex.specs.Kinds.{IsQuotedRest, IsTripledRest, IsString}
use Rattle.meson_lex.specs.Literals.{unescaped, between, value_of_characters, value}
use Rattle.meson_lex.proofs.Characters.{first_char}

-- ---- what stands between quotes

-- the text begins and ends with the quotes
pub record IsEnclosed (quotes token : List ℕ) : Type 0 where
  pub inner : List ℕ
  pub joins : quotes ++ (inner ++ quotes) ≡ token

pub quoted_inner : (rest : List ℕ) → IsQuotedRest rest → (inner : List ℕ) × (inner ++ codes "'" ≡ rest)
quoted_inner [] h = absurd h
quoted_inner (b ∷ []) h = ([], ap (λ x. x ∷ []) (sym h))
quoted_inner (b ∷ c ∷ bs) h =
    ⊎_elim
    (λ e. let r = quoted_inner bs e.1 in (b ∷ c ∷ r.0, ap (λ l. b ∷ c ∷ l) r.1))
    (λ o. let r = quoted_inner (c ∷ bs) o.2 in (b ∷ r.0, ap (λ l. b ∷ l) r.1))
    h

pub tripled_inner : (rest : List ℕ) → IsTripledRest rest → (inner : List ℕ) × (inner ++ codes "'''" ≡ rest)
tripled_inner [] h = absurd h
tripled_inner (b ∷ bs) h = ⊎_elim (λ e. ([], sym e)) (λ o. let r = tripled_inner bs o.1 in (b ∷ r.0, ap (λ l. b ∷ l) r.1)) h

pub plain_enclosed : (token : List ℕ) → IsString PlainString token → IsEnclosed (codes "'") token
plain_enclosed token s = let r = quoted_inner s.rest s.closed in record { inner = r.0; joins = ap (λ l. 39 ∷ l) r.1 ∙ s.joins }

pub multiline_enclosed : (token : List ℕ) → IsString MultilineString token → IsEnclosed (codes "'''") token
multiline_enclosed token s = let r = tripled_inner s.rest s.closed in record { inner = r.0; joins = ap (λ l. codes "'''" ++ l) r.1 ∙ s.joins }

between_inner : (quotes inner : List ℕ) (n : ℕ) → length quotes ≡ n → between n (quotes ++ (inner ++ quotes)) ≡ inner
between_inner quotes inner n count =
    let len : length inner ≡ length (quotes ++ (inner ++ quotes)) - 2 * n = omega (arith, length-append quotes (inner ++ quotes), length-append inner quotes, count) in
    ap (take (length (quotes ++ (inner ++ quotes)) - 2 * n)) (drop_at quotes (inner ++ quotes) n count) ∙ take_at inner quotes _ len

-- ---- UTF-8

quote_tail : (bs : List ℕ) → IsUtf8 (39 ∷ bs) → IsUtf8 bs
quote_tail bs u = ⊎_elim (λ a. a.rest) (λ w. let high = w.high in absurd (omega arith)) (first_char 39 bs u)

before_quote : (inner more : List ℕ) → IsUtf8 (inner ++ (39 ∷ more)) → IsUtf8 inner
before_quote inner more u =
    let all : List ℕ = inner ++ (39 ∷ more) in
    let inside : length inner < length all = omega (arith, length-append inner (39 ∷ more)) in
    let byte : get_or all (length inner) 0 ≡ 39 = get_or-append_seam inner 39 more 0 in
    subst IsUtf8 (take_at inner (39 ∷ more) _ refl) (IsUtf8-take all (length inner) u (IsCharBoundary-before_ascii all (length inner) inside (subst (λ b. b < 128) (sym byte) (lit< tt))))

-- ---- values

module _ (kind : Kind) (quotes inner token : List ℕ) (joins : quotes ++ (inner ++ quotes) ≡ token) (quotes_text : IsUtf8 quotes) (quotes_chars : chars quotes ≡ quotes) where
  value_text : IsUtf8 inner → value kind token ≡ option_map encode_utf8_all (value_of_characters kind (quotes ++ (chars inner ++ quotes)))
  value_text u =
      let whole : IsUtf8 token = subst IsUtf8 joins (IsUtf8-append quotes (inner ++ quotes) quotes_text (IsUtf8-append inner quotes u quotes_text)) in
      let characters : chars token ≡ quotes ++ (chars inner ++ quotes) =
      ap chars (sym joins) ∙ chars-append quotes (inner ++ quotes) quotes_text ∙ ap (λ l. l ++ chars (inner ++ quotes)) quotes_chars
      ∙ ap (λ l. quotes ++ l) (chars-append inner quotes u ∙ ap (λ l. chars inner ++ l) quotes_chars) in
      cond-true (is_utf8 token) _ _ (is_utf8-from_IsUtf8 token whole) ∙ ap (λ l. option_map encode_utf8_all (value_of_characters kind l)) characters

  value_bytes : (IsUtf8 token → IsUtf8 inner) → (IsUtf8 inner → ⊥) → value kind token ≡ None
  value_bytes inside bytes = cond-false (is_utf8 token) _ _ (false_from_ne_true _ (λ text. bytes (inside (IsUtf8-from_is_utf8 token text))))

pub one_quote : IsUtf8 (codes "'")
unfolding encode_utf8
one_quote = (codes "'", (refl, refl))

three_quotes : IsUtf8 (codes "'''")
unfolding encode_utf8
three_quotes = (codes "'''", (refl, refl))

one_quote_char : chars (codes "'") ≡ codes "'"
unfolding chars
one_quote_char = refl

three_quote_chars : chars (codes "'''") ≡ codes "'''"
unfolding chars
three_quote_chars = refl

pub plain_text : (token : List ℕ) (e : IsEnclosed (codes "'") token) → IsUtf8 e.inner → value PlainString token ≡ option_map encode_utf8_all (unescaped (chars e.inner))
plain_text token e u =
    value_text PlainString (codes "'") e.inner token e.joins one_quote one_quote_char u
    ∙ ap (λ l. option_map encode_utf8_all (unescaped l)) (between_inner (codes "'") (chars e.inner) 1 refl)

pub plain_bytes : (token : List ℕ) (e : IsEnclosed (codes "'") token) → (IsUtf8 e.inner → ⊥) → value PlainString token ≡ None
plain_bytes token e bytes =
    value_bytes PlainString (codes "'") e.inner token e.joins one_quote one_quote_char
    (λ u. before_quote e.inner [] (quote_tail _ (subst IsUtf8 (sym e.joins) u))) bytes

pub multiline_text : (token : List ℕ) (e : IsEnclosed (codes "'''") token) → IsUtf8 e.inner → value MultilineString token ≡ Some e.inner
multiline_text token e u =
    value_text MultilineString (codes "'''") e.inner token e.joins three_quotes three_quote_chars u
    ∙ ap (λ l. Some (encode_utf8_all l)) (between_inner (codes "'''") (chars e.inner) 3 refl) ∙ ap Some (encodes-chars e.inner u)

pub multiline_bytes : (token : List ℕ) (e : IsEnclosed (codes "'''") token) → (IsUtf8 e.inner → ⊥) → value MultilineString token ≡ None
multiline_bytes token e bytes =
    value_bytes MultilineString (codes "'''") e.inner token e.joins three_quotes three_quote_chars
    (λ u. before_quote e.inner (codes "''") (quote_tail _ (quote_tail _ (quote_tail _ (subst IsUtf8 (sym e.joins) u))))) bytes

-- the part of the token's bytes that the code reads
pub plain_slice : (token : List ℕ) (e : IsEnclosed (codes "'") token) → take (length token - 1 - 1) (drop 1 token) ≡ e.inner
plain_slice token e =
    let two : length token - 1 - 1 ≡ length token - 2 = omega arith in
    ap (λ n. take n (drop 1 token)) two ∙ ap (between 1) (sym e.joins) ∙ between_inner (codes "'") e.inner 1 refl

pub multiline_slice : (token : List ℕ) (e : IsEnclosed (codes "'''") token) → take (length token - 3 - 3) (drop 3 token) ≡ e.inner
multiline_slice token e =
    let six : length token - 3 - 3 ≡ length token - 6 = omega arith in
    ap (λ n. take n (drop 3 token)) six ∙ ap (between 3) (sym e.joins) ∙ between_inner (codes "'''") e.inner 3 refl

pub enclosed_len : (quotes token : List ℕ) → IsEnclosed quotes token → length quotes + length quotes ≤ length token
enclosed_len quotes token e = omega (arith, ap length e.joins, length-append quotes (e.inner ++ quotes), length-append e.inner quotes)
