-- A string whose first quote, backslash or CR is the quote that closes it.
use Rattle.std.proofs.Common.{◌≡◌, ℕ, zero, suc, ◌+◌, ◌<◌, List, [], ◌∷◌, length, take, drop, get_or, eqb, true, Some, None, Ok, sym, refl, ap, ◌∙◌, subst, arith}
use Rattle.std.specs.Prelude.{option_map}
use Rattle.std.proofs.lemmas.Bool.{or_left, or_right, eq-eqb}
use Rattle.memchr.specs.Find.{is_byte2, is_byte3, Passes, NoneBefore}
use Rattle.meson_lex.specs.declared.kinds.Kind.TheVariants.{PlainString}
use Rattle.meson_lex.specs.Bytes.{first_bare_return}
use Rattle.meson_lex.specs.Faults.{opened_string}
use Rattle.meson_lex.specs.Scan.{quoted_len, quoted_front, string_front, unless_bare}
use Rattle.meson_lex.proofs.ByteSearch.{return_over}
use Rattle.meson_lex.proofs.Openings.{opened_as}
use Rattle.meson_lex.proofs.StringSearch.{quoted_quote}

or_three : (x : ℕ) → is_byte2 39 92 x ≡ true → is_byte3 39 92 13 x ≡ true
or_three x p = or_left (is_byte2 39 92 x) (eqb x 13) p

no_return : (i : ℕ) (s : List ℕ) → ((k : ℕ) → k < i → get_or s k 0 ≡ 13 → ⊥) → get_or s i 0 ≡ 39 → first_bare_return (take (suc i) s) ≡ None
no_return i [] none is = refl
no_return zero (b ∷ bs) none is = return_over b [] (λ e. let both : 39 ≡ 13 = sym is ∙ e in absurd (omega (arith, both)))
no_return (suc i) (b ∷ bs) none is =
    return_over b (take (suc i) bs) (none 0 (omega arith))
    ∙ ap (option_map (λ k. 1 + k)) (no_return i bs (λ k l. none (suc k) (omega arith)) is)

module _ (s : List ℕ) (i : ℕ) (first : NoneBefore (Passes (is_byte3 39 92 13) s) 0 (length s) i) (is : get_or s i 0 ≡ 39) where
  pub simple_closes : quoted_len s ≡ Some (i + 1)
  simple_closes = quoted_quote s i (record { low = first.low; high = first.high; before = λ k l h p. first.before k l h (or_three (get_or s k 0) p) }) is

  pub simple_no_return : first_bare_return (take (i + 1) s) ≡ None
  simple_no_return =
      let one : suc i ≡ i + 1 = omega arith in
      subst (λ n. first_bare_return (take n s) ≡ None) one
      (no_return i s (λ k l e. first.before k (omega arith) l (or_right (is_byte2 39 92 (get_or s k 0)) (eqb (get_or s k 0) 13) (eq-eqb (get_or s k 0) 13 e))) is)

simple_of : (at : ℕ) (rest : List ℕ) (len : ℕ) → quoted_len rest ≡ Some len → first_bare_return (take len rest) ≡ None → string_front at PlainString (39 ∷ rest) ≡ Ok (PlainString, 1 + len)
unfolding string_front
simple_of at rest len closes bare =
    let one : suc len ≡ 1 + len = omega arith in
    ap (quoted_front at PlainString (39 ∷ rest)) closes
    ∙ ap (λ o. unless_bare at o (Ok (PlainString, 1 + len)))
    (subst (λ n. first_bare_return (take n (39 ∷ rest)) ≡ None) one (return_over 39 (take len rest) (λ e. cc) ∙ ap (option_map (λ k. 1 + k)) bare))

-- the whole string is what its opening says and its end
pub simple_string : (at : ℕ) (bytes : List ℕ) (len : ℕ) → opened_string bytes ≡ Some PlainString → quoted_len (drop 1 bytes) ≡ Some len → first_bare_return (take len (drop 1 bytes)) ≡ None → string_front at PlainString bytes ≡ Ok (PlainString, 1 + len)
simple_string at bytes len opened_string closes bare =
    let opened = opened_as bytes PlainString opened_string in
    subst (λ l. quoted_len (drop 1 l) ≡ Some len → first_bare_return (take len (drop 1 l)) ≡ None → string_front at PlainString l ≡ Ok (PlainString, 1 + len)) opened.1
    (simple_of at opened.0 len) closes bare
