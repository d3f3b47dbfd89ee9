-- What a search for a byte says of functions that pass over all other bytes.
use Rattle.std.proofs.Common.{◌≡◌, ℕ, zero, suc, ◌+◌, ◌<◌, ◌≤◌, true, false, not, List, [], ◌∷◌, length, drop, get_or, Option, Some, None, option_map, sym, refl, ap, ◌∙◌, arith}
use Rattle.std.specs.List.{prefix_len}
use Rattle.std.proofs.lemmas.Bool.{cond-true, cond-false, and_left, ne_eqb, eq-eqb, false_from_ne_true}
use Rattle.std.proofs.lemmas.List.{drop_more, drop_all}
use Rattle.std.proofs.lemmas.List.Sums.{prefix_len_is}
use Rattle.memchr.specs.Find.{is_byte, is_byte2, Nowhere, Passes, NoneBefore}
use Rattle.meson_lex.specs.Bytes.{is_line_byte, is_line_feed, begins, begins_three_quotes, begins_bare_return, first_bare_return}
use Rattle.meson_lex.specs.Scan.{tripled_len}

-- ---- the end of a line

pub line_found : (s : List ℕ) (n : ℕ) → NoneBefore (Passes (is_byte2 10 13) s) 0 (length s) n → Passes (is_byte2 10 13) s n → n ≡ prefix_len (λ b. not (is_line_byte b)) s
line_found s n first here =
    let high : n < length s = first.high in
    sym (prefix_len_is (λ b. not (is_line_byte b)) s n 0 (omega arith)
    (λ k below. ap not (false_from_ne_true _ (λ passes. first.before k (omega arith) below passes)))
    (λ inside. ap not here))

pub line_not_found : (s : List ℕ) → Nowhere (Passes (is_byte2 10 13) s) 0 (length s) → length s ≡ prefix_len (λ b. not (is_line_byte b)) s
line_not_found s none =
    sym (prefix_len_is (λ b. not (is_line_byte b)) s (length s) 0 (omega arith)
    (λ k below. ap not (false_from_ne_true _ (λ passes. none k (omega arith) below passes)))
    (λ inside. absurd (omega (arith, inside))))

-- ---- a function that passes over all bytes but one

pub plus_zero : (o : Option ℕ) → o ≡ option_map (λ k. 0 + k) o
plus_zero None = refl
plus_zero (Some k) = let e : k ≡ 0 + k = omega arith in ap Some e

-- two numbers added in turn
pub plus_plus : (m n l : ℕ) → m + n ≡ l → (o : Option ℕ) → option_map (λ k. m + k) (option_map (λ k. n + k) o) ≡ option_map (λ k. l + k) o
plus_plus m n l e None = refl
plus_plus m n l e (Some k) = let s : m + (n + k) ≡ l + k = omega arith in ap Some s

module _ (needle : ℕ) (f : List ℕ → Option ℕ) (nil : f [] ≡ None) (passes_over : (b : ℕ) (bs : List ℕ) → (b ≡ needle → ⊥) → f (b ∷ bs) ≡ option_map (λ k. 1 + k) (f bs)) where
  skip : (i : ℕ) (s : List ℕ) → i ≤ length s → ((k : ℕ) → k < i → is_byte needle (get_or s k 0) ≡ true → ⊥) → f s ≡ option_map (λ k. i + k) (f (drop i s))
  skip zero s h none = plus_zero (f s)
  skip (suc i) [] h none = absurd (omega arith)
  skip (suc i) (b ∷ bs) h none =
      let one : 1 + i ≡ suc i = omega arith in
      passes_over b bs (λ e. none 0 (omega arith) (eq-eqb b needle e))
      ∙ ap (option_map (λ k. 1 + k)) (skip i bs (omega arith) (λ k below. none (suc k) (omega arith))) ∙ plus_plus 1 i (suc i) one _

  pub found_nowhere : (s : List ℕ) → Nowhere (Passes (is_byte needle) s) 0 (length s) → f s ≡ None
  found_nowhere s none =
      skip (length s) s (omega arith) (λ k below passes. none k (omega arith) below passes) ∙ ap (λ l. option_map (λ k. length s + k) (f l)) (drop_all (length s) s (omega arith))
      ∙ ap (option_map (λ k. length s + k)) nil

  pub found_at : (s : List ℕ) (i : ℕ) → NoneBefore (Passes (is_byte needle) s) 0 (length s) i → get_or s i 0 ≡ needle → f s ≡ option_map (λ k. i + k) (f (needle ∷ drop (i + 1) s))
  found_at s i first here =
      let high : i < length s = first.high in
      skip i s (omega arith) (λ k below passes. first.before k (omega arith) below passes)
      ∙ ap (λ l. option_map (λ k. i + k) (f l)) (drop_more s i 0 high ∙ ap (λ b. b ∷ drop (i + 1) s) here)

-- ---- bare CRs

pub return_over : (b : ℕ) (bs : List ℕ) → (b ≡ 13 → ⊥) → first_bare_return (b ∷ bs) ≡ option_map (λ k. 1 + k) (first_bare_return bs)
return_over b bs other = cond-false (begins_bare_return (b ∷ bs)) _ _ (and_left _ _ (ne_eqb b 13 other)) ∙ suc_one (first_bare_return bs)
  where
    suc_one : (o : Option ℕ) → option_map suc o ≡ option_map (λ k. 1 + k) o
    suc_one None = refl
    suc_one (Some k) = let e : suc k ≡ 1 + k = omega arith in ap Some e

-- place bytes of s were passed over, and rest is left
module _ (s rest : List ℕ) (place : ℕ) (so_far : first_bare_return s ≡ option_map (λ k. place + k) (first_bare_return rest)) where
  pub return_nowhere : Nowhere (Passes (is_byte 13) rest) 0 (length rest) → None ≡ first_bare_return s
  return_nowhere none = sym (so_far ∙ ap (option_map (λ k. place + k)) (found_nowhere 13 first_bare_return refl return_over rest none))

  module _ (i : ℕ) (first : NoneBefore (Passes (is_byte 13) rest) 0 (length rest) i) (here : get_or rest i 0 ≡ 13) where
    pub return_here : begins is_line_feed (drop (i + 1) rest) ≡ false → Some (place + i) ≡ first_bare_return s
    return_here alone =
        let at : place + (i + 0) ≡ place + i = omega arith in
        sym (so_far ∙ ap (option_map (λ k. place + k)) (found_at 13 first_bare_return refl return_over rest i first here ∙ ap (option_map (λ k. i + k)) (cond-true (not (begins is_line_feed (drop (i + 1) rest))) _ _ (ap not alone))) ∙ ap Some at)

    pub return_paired : begins is_line_feed (drop (i + 1) rest) ≡ true → first_bare_return s ≡ option_map (λ k. (place + (i + 1)) + k) (first_bare_return (drop (i + 1) rest))
    return_paired paired =
        so_far ∙ ap (option_map (λ k. place + k)) (found_at 13 first_bare_return refl return_over rest i first here ∙ ap (option_map (λ k. i + k)) (cond-false (not (begins is_line_feed (drop (i + 1) rest))) _ _ (ap not paired)) ∙ suc_after (first_bare_return (drop (i + 1) rest)))
        ∙ plus_plus place (i + 1) (place + (i + 1)) refl _
      where
        suc_after : (o : Option ℕ) → option_map (λ k. i + k) (option_map suc o) ≡ option_map (λ k. (i + 1) + k) o
        suc_after None = refl
        suc_after (Some k) = let e : i + suc k ≡ i + 1 + k = omega arith in ap Some e

-- ---- three quotes

quotes_over : (b : ℕ) (bs : List ℕ) → (b ≡ 39 → ⊥) → tripled_len (b ∷ bs) ≡ option_map (λ k. 1 + k) (tripled_len bs)
quotes_over b bs other = cond-false (begins_three_quotes (b ∷ bs)) _ _ (and_left _ _ (ne_eqb b 39 other)) ∙ flip (tripled_len bs)
  where
    flip : (o : Option ℕ) → option_map (λ k. k + 1) o ≡ option_map (λ k. 1 + k) o
    flip None = refl
    flip (Some k) = let e : k + 1 ≡ 1 + k = omega arith in ap Some e

module _ (s rest : List ℕ) (len : ℕ) (so_far : tripled_len s ≡ option_map (λ k. len + k) (tripled_len rest)) where
  pub quotes_nowhere : Nowhere (Passes (is_byte 39) rest) 0 (length rest) → None ≡ tripled_len s
  quotes_nowhere none = sym (so_far ∙ ap (option_map (λ k. len + k)) (found_nowhere 39 tripled_len refl quotes_over rest none))

  module _ (i : ℕ) (first : NoneBefore (Passes (is_byte 39) rest) 0 (length rest) i) (here : get_or rest i 0 ≡ 39) where
    behind : drop i rest ≡ 39 ∷ drop (i + 1) rest
    behind = let high : i < length rest = first.high in drop_more rest i 0 high ∙ ap (λ b. b ∷ drop (i + 1) rest) here

    pub quotes_here : begins_three_quotes (drop i rest) ≡ true → Some (len + i + 3) ≡ tripled_len s
    quotes_here three =
        let at : len + (i + 3) ≡ len + i + 3 = omega arith in
        sym (so_far ∙ ap (option_map (λ k. len + k)) (found_at 39 tripled_len refl quotes_over rest i first here ∙ ap (option_map (λ k. i + k)) (cond-true (begins_three_quotes (39 ∷ drop (i + 1) rest)) _ _ (ap begins_three_quotes (sym behind) ∙ three))) ∙ ap Some at)

    pub quotes_on : begins_three_quotes (drop i rest) ≡ false → tripled_len s ≡ option_map (λ k. (len + (i + 1)) + k) (tripled_len (drop (i + 1) rest))
    quotes_on other =
        so_far ∙ ap (option_map (λ k. len + k)) (found_at 39 tripled_len refl quotes_over rest i first here ∙ ap (option_map (λ k. i + k)) (cond-false (begins_three_quotes (39 ∷ drop (i + 1) rest)) _ _ (ap begins_three_quotes (sym behind) ∙ other)) ∙ after (tripled_len (drop (i + 1) rest)))
        ∙ plus_plus len (i + 1) (len + (i + 1)) refl _
      where
        after : (o : Option ℕ) → option_map (λ k. i + k) (option_map (λ k. k + 1) o) ≡ option_map (λ k. (i + 1) + k) o
        after None = refl
        after (Some k) = let e : i + (k + 1) ≡ i + 1 + k = omega arith in ap Some e
