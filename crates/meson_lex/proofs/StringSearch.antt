-- What a search for a quote or a backslash says of the end of a string.
use Rattle.std.proofs.Common.{◌≡◌, ℕ, zero, suc, ◌+◌, ◌<◌, ◌≤◌, List, [], ◌∷◌, length, drop, get_or, eqb, true, Option, Some, None, sym, refl, ap, ◌∙◌, arith, ⊎_elim}
use Rattle.std.specs.Prelude.{option_map}
use Rattle.std.proofs.lemmas.Bool.{cond-false, or_left, or_right, or_cases, ne_eqb, eq-eqb, eqb-true}
use Rattle.std.proofs.lemmas.List.{drop_more, drop_all}
use Rattle.memchr.specs.Find.{is_byte2, Nowhere, Passes, NoneBefore}
use Rattle.meson_lex.specs.Scan.{quoted_len}
use Rattle.meson_lex.proofs.ByteSearch.{plus_zero, plus_plus}
use Rattle.meson_lex.proofs.StringEnds.{Finds}
use Rattle.std.proofs.Common.{length-append}

plus_flip : (n : ℕ) (o : Option ℕ) → option_map (λ k. k + n) o ≡ option_map (λ k. n + k) o
plus_flip n None = refl
plus_flip n (Some k) = let s : k + n ≡ n + k = omega arith in ap Some s

-- the byte is neither a quote nor a backslash
IsPlain : ℕ → Type 0
IsPlain b = (b ≡ 39 → ⊥) × (b ≡ 92 → ⊥)

-- bytes that are neither are passed over
quoted_skip : (i : ℕ) (s : List ℕ) → i ≤ length s → ((k : ℕ) → k < i → is_byte2 39 92 (get_or s k 0) ≡ true → ⊥) → quoted_len s ≡ option_map (λ k. i + k) (quoted_len (drop i s))
quoted_skip zero s h none = plus_zero (quoted_len s)
quoted_skip (suc i) [] h none = absurd (omega arith)
quoted_skip (suc zero) (b ∷ []) h none = cond-false (eqb b 39) _ _ (ne_eqb b 39 (λ e. none 0 (omega arith) (or_left _ _ (eq-eqb b 39 e))))
quoted_skip (suc (suc i)) (b ∷ []) h none = absurd (omega arith)
quoted_skip (suc i) (b ∷ c ∷ bs) h none =
    let one : 1 + i ≡ suc i = omega arith in
    cond-false (eqb b 39) _ _ (ne_eqb b 39 (λ e. none 0 (omega arith) (or_left _ _ (eq-eqb b 39 e))))
    ∙ cond-false (eqb b 92) _ _ (ne_eqb b 92 (λ e. none 0 (omega arith) (or_right _ _ (eq-eqb b 92 e))))
    ∙ ap (option_map (λ n. n + 1)) (quoted_skip i (c ∷ bs) (omega arith) (λ k l. none (suc k) (omega arith)))
    ∙ plus_flip 1 _ ∙ plus_plus 1 i (suc i) one _

-- no quote and no backslash
pub quoted_none : (s : List ℕ) → Nowhere (Passes (is_byte2 39 92) s) 0 (length s) → quoted_len s ≡ None
quoted_none s none =
    quoted_skip (length s) s (omega arith) (λ k l. none k (omega arith) l) ∙ ap (λ l. option_map (λ k. length s + k) (quoted_len l)) (drop_all (length s) s (omega arith))

quoted_at : (s : List ℕ) (i : ℕ) → NoneBefore (Passes (is_byte2 39 92) s) 0 (length s) i → quoted_len s ≡ option_map (λ k. i + k) (quoted_len (get_or s i 0 ∷ drop (i + 1) s))
quoted_at s i first =
    let high : i < length s = first.high in
    quoted_skip i s (omega arith) (λ k l. first.before k (omega arith) l) ∙ ap (λ l. option_map (λ k. i + k) (quoted_len l)) (drop_more s i 0 high)

-- a quote first
pub quoted_quote : (s : List ℕ) (i : ℕ) → NoneBefore (Passes (is_byte2 39 92) s) 0 (length s) i → get_or s i 0 ≡ 39 → quoted_len s ≡ Some (i + 1)
quoted_quote s i first is =
    quoted_at s i first ∙ ap (option_map (λ k. i + k)) (ap (λ x. quoted_len (x ∷ drop (i + 1) s)) is ∙ closes (drop (i + 1) s))
  where
    closes : (bs : List ℕ) → quoted_len (39 ∷ bs) ≡ Some 1
    closes [] = refl
    closes (c ∷ cs) = refl

-- a backslash first, and a byte after it
pub quoted_escape : (s : List ℕ) (i : ℕ) → NoneBefore (Passes (is_byte2 39 92) s) 0 (length s) i → get_or s i 0 ≡ 92 → i + 1 < length s → quoted_len s ≡ option_map (λ k. (i + 2) + k) (quoted_len (drop (i + 2) s))
quoted_escape s i first is more =
    let two : i + 1 + 1 ≡ i + 2 = omega arith in
    quoted_at s i first
    ∙ ap (option_map (λ k. i + k)) (ap (λ x. quoted_len (x ∷ drop (i + 1) s)) is ∙ ap (λ l. quoted_len (92 ∷ l)) (drop_more s (i + 1) 0 more ∙ ap (λ n. get_or s (i + 1) 0 ∷ drop n s) two) ∙ plus_flip 2 (quoted_len (drop (i + 2) s)))
    ∙ plus_plus i 2 (i + 2) refl _

-- a backslash at the end
pub quoted_cut : (s : List ℕ) (i : ℕ) → NoneBefore (Passes (is_byte2 39 92) s) 0 (length s) i → get_or s i 0 ≡ 92 → i + 1 ≡ length s → quoted_len s ≡ None
quoted_cut s i first is last =
    quoted_at s i first ∙ ap (option_map (λ k. i + k)) (ap (λ x. quoted_len (x ∷ drop (i + 1) s)) is ∙ ap (λ l. quoted_len (92 ∷ l)) (drop_all (i + 1) s (omega arith)))

-- no more bytes are counted than there are
pub quoted_within : (s : List ℕ) (n : ℕ) → Finds s (Some n) → n ≤ length s
quoted_within s n h = omega (arith, ap length h.joins, length-append h.text h.rest, h.len)

-- ---- the same from turn to turn: n bytes of s were passed, and rest is left
module _ (s rest : List ℕ) (n i : ℕ) (so_far : quoted_len s ≡ option_map (λ k. n + k) (quoted_len rest)) (first : NoneBefore (Passes (is_byte2 39 92) rest) 0 (length rest) i) where
  pub turn_quote : get_or rest i 0 ≡ 39 → Some (n + i + 1) ≡ quoted_len s
  turn_quote is =
      let place : n + (i + 1) ≡ n + i + 1 = omega arith in
      sym (so_far ∙ ap (option_map (λ k. n + k)) (quoted_quote rest i first is) ∙ ap Some place)

  -- it is a backslash, if it is no quote
  turn_backslash : Passes (is_byte2 39 92) rest i → (get_or rest i 0 ≡ 39 → ⊥) → get_or rest i 0 ≡ 92
  turn_backslash passes other = ⊎_elim (λ q. absurd (other (eqb-true _ 39 q))) (λ e. eqb-true _ 92 e) (or_cases _ _ passes)

  pub turn_cut : Passes (is_byte2 39 92) rest i → (get_or rest i 0 ≡ 39 → ⊥) → i + 1 ≡ length rest → None ≡ quoted_len s
  turn_cut passes other last = sym (so_far ∙ ap (option_map (λ k. n + k)) (quoted_cut rest i first (turn_backslash passes other) last))

  pub turn_escape : Passes (is_byte2 39 92) rest i → (get_or rest i 0 ≡ 39 → ⊥) → i + 1 < length rest → quoted_len s ≡ option_map (λ k. (n + (i + 2)) + k) (quoted_len (drop (i + 2) rest))
  turn_escape passes other more =
      so_far ∙ ap (option_map (λ k. n + k)) (quoted_escape rest i first (turn_backslash passes other) more) ∙ plus_plus n (i + 2) (n + (i + 2)) refl _

-- nothing is found in what is left
pub turn_none : (s rest : List ℕ) (n : ℕ) → quoted_len s ≡ option_map (λ k. n + k) (quoted_len rest) → Nowhere (Passes (is_byte2 39 92) rest) 0 (length rest) → None ≡ quoted_len s
turn_none s rest n so_far none = sym (so_far ∙ ap (option_map (λ k. n + k)) (quoted_none rest none))
