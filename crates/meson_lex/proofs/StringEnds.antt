-- How far a string goes.
use Rattle.std.proofs.Common.{◌≡◌, ℕ, suc, ◌+◌, true, false, eqb, ◌&&◌, List, [], ◌∷◌, ◌++◌, length, Option, Some, None, sym, refl, ap, ◌∙◌, subst, arith, ⊎_elim, inl, inr}
use Rattle.std.specs.Prelude.{option_map, codes}
use Rattle.meson_lex.specs.declared.kinds.Kind.{Kind}
use Rattle.meson_lex.specs.declared.kinds.Kind.TheVariants.{PlainString, MultilineString, FormatString, FormatMultilineString}
use Rattle.std.proofs.lemmas.Bool.{cond-true, cond-false, cond_both, and_parts, and_right, eq-eqb, eqb-true, eqb-false, ne_eqb, false≢true}
use Rattle.meson_lex.specs.Bytes.{begins_three_quotes}
use Rattle.meson_lex.specs.Kinds.{IsQuotedRest, IsTripledRest, IsRestOf}
use Rattle.meson_lex.specs.Scan.{quoted_len, tripled_len, rest_len}

-- a closed string is found, whatever follows it
pub quoted_closed : (text rest : List ℕ) → IsQuotedRest text → quoted_len (text ++ rest) ≡ Some (length text)
quoted_closed [] rest h = absurd h
quoted_closed (b ∷ []) [] h = cond-true (eqb b 39) _ _ (eq-eqb b 39 h)
quoted_closed (b ∷ []) (c ∷ cs) h = cond-true (eqb b 39) _ _ (eq-eqb b 39 h)
quoted_closed (b ∷ c ∷ bs) rest h =
    ⊎_elim
    (λ escaped.
    let P : ℕ → Type 0 = λ x. quoted_len (x ∷ c ∷ (bs ++ rest)) ≡ Some (suc (suc (length bs))) in
    let two : length bs + 2 ≡ suc (suc (length bs)) = omega arith in
    subst P (sym escaped.0) (ap (option_map (λ n. n + 2)) (quoted_closed bs rest escaped.1) ∙ ap Some two))
    (λ other.
    let one : length (c ∷ bs) + 1 ≡ suc (length (c ∷ bs)) = omega arith in
    cond-false (eqb b 39) _ _ (ne_eqb b 39 other.0) ∙ cond-false (eqb b 92) _ _ (ne_eqb b 92 other.1) ∙ ap (option_map (λ n. n + 1)) (quoted_closed (c ∷ bs) rest other.2) ∙ ap Some one)
    h

-- a front of bytes, of n bytes, after a quote
pub record IsQuotedFront (bytes : List ℕ) (n : ℕ) : Type 0 where
  pub text : List ℕ
  pub rest : List ℕ
  pub joins : text ++ rest ≡ bytes
  pub closed : IsQuotedRest text
  pub len : length text ≡ n

-- what a search answers, for what it is said to find
abbrev pub Finds : List ℕ → Option ℕ → Type 0
Finds bytes None = Unit {0}
Finds bytes (Some n) = IsQuotedFront bytes n

escaped_finds : (b c : ℕ) (bs : List ℕ) (o : Option ℕ) → b ≡ 92 → Finds bs o → Finds (b ∷ c ∷ bs) (option_map (λ n. n + 2) o)
escaped_finds b c bs None e h = tt
escaped_finds b c bs (Some n) e h = record {
  text = b ∷ c ∷ h.text;
  rest = h.rest;
  joins = ap (λ l. b ∷ c ∷ l) h.joins;
  closed = inl (e, h.closed);
  len = omega (arith, h.len);
}

other_finds : (b c : ℕ) (bs : List ℕ) (o : Option ℕ) → (b ≡ 39 → ⊥) → (b ≡ 92 → ⊥) → Finds (c ∷ bs) o → Finds (b ∷ c ∷ bs) (option_map (λ n. n + 1) o)
other_finds b c bs None q e h = tt
other_finds b c bs (Some n) q e h = record {
  text = b ∷ h.text;
  rest = h.rest;
  joins = ap (λ l. b ∷ l) h.joins;
  closed = other_closed b h.text q e h.closed;
  len = omega (arith, h.len);
}
  where
    other_closed : (b : ℕ) (text : List ℕ) → (b ≡ 39 → ⊥) → (b ≡ 92 → ⊥) → IsQuotedRest text → IsQuotedRest (b ∷ text)
    other_closed b [] q e closed = absurd closed
    other_closed b (x ∷ xs) q e closed = inr (q, e, closed)

-- the quote itself
quote_finds : (b : ℕ) (bs : List ℕ) → b ≡ 39 → Finds (b ∷ bs) (Some 1)
quote_finds b bs e = record { text = b ∷ []; rest = bs; joins = refl; closed = e; len = refl }

pub quoted_finds : (bytes : List ℕ) → Finds bytes (quoted_len bytes)
quoted_finds [] = tt
quoted_finds (b ∷ []) = cond_both (eqb b 39) _ _ (Finds (b ∷ [])) (λ yes. quote_finds b [] (eqb-true b 39 yes)) (λ _. tt)
quoted_finds (b ∷ c ∷ bs) =
    cond_both (eqb b 39) _ _ (Finds (b ∷ c ∷ bs)) (λ yes. quote_finds b (c ∷ bs) (eqb-true b 39 yes))
    (λ no. cond_both (eqb b 92) _ _ (Finds (b ∷ c ∷ bs))
    (λ yes. escaped_finds b c bs _ (eqb-true b 92 yes) (quoted_finds bs))
    (λ other. other_finds b c bs _ (eqb-false b 39 no) (eqb-false b 92 other) (quoted_finds (c ∷ bs))))

-- what stands before a rest is independent of what follows it
tripled_front : (b : ℕ) (bs rest : List ℕ) → IsTripledRest bs → begins_three_quotes ((b ∷ bs) ++ rest) ≡ begins_three_quotes (b ∷ bs)
tripled_front b [] rest h = absurd h
tripled_front b (x ∷ []) rest h = ⊎_elim (λ e. absurd (cc)) (λ p. absurd p.1) h
tripled_front b (x ∷ y ∷ zs) rest h = refl

pub tripled_closed : (text rest : List ℕ) → IsTripledRest text → tripled_len (text ++ rest) ≡ Some (length text)
tripled_closed [] rest h = absurd h
tripled_closed (b ∷ bs) rest h =
    let one : length bs + 1 ≡ suc (length bs) = omega arith in
    ⊎_elim
    (λ e. subst (λ t. tripled_len (t ++ rest) ≡ Some (length t)) (sym e) refl)
    (λ p. cond-false (begins_three_quotes ((b ∷ bs) ++ rest)) _ _ (tripled_front b bs rest p.1 ∙ p.0) ∙ ap (option_map (λ n. n + 1)) (tripled_closed bs rest p.1) ∙ ap Some one)
    h

pub rest_closed : (k : Kind) (text rest : List ℕ) → IsRestOf k text → rest_len k (text ++ rest) ≡ Some (length text)
rest_closed PlainString text rest h = quoted_closed text rest h
rest_closed FormatString text rest h = quoted_closed text rest h
rest_closed MultilineString text rest h = tripled_closed text rest h
rest_closed FormatMultilineString text rest h = tripled_closed text rest h
rest_closed _ text rest h = absurd h

-- ---- what is found

-- a front of bytes, of n bytes
pub record IsFrontOf (P : List ℕ → Type 0) (bytes : List ℕ) (n : ℕ) : Type 0 where
  pub text : List ℕ
  pub rest : List ℕ
  pub joins : text ++ rest ≡ bytes
  pub closed : P text
  pub len : length text ≡ n

abbrev pub FindsFront : (List ℕ → Type 0) → List ℕ → Option ℕ → Type 0
FindsFront P bytes None = Unit {0}
FindsFront P bytes (Some n) = IsFrontOf P bytes n

-- three quotes, and what follows them
pub three_quotes : (bs : List ℕ) → begins_three_quotes bs ≡ true → (rest : List ℕ) × (codes "'''" ++ rest ≡ bs)
three_quotes [] h = absurd (false≢true h)
three_quotes (a ∷ []) h = absurd (false≢true (sym (and_right (eqb a 39) false refl) ∙ h))
three_quotes (a ∷ b ∷ []) h =
    let p = and_parts (eqb a 39) (eqb b 39 && false) h in
    absurd (false≢true (sym (and_right (eqb b 39) false refl) ∙ p.1))
three_quotes (a ∷ b ∷ c ∷ cs) h =
    let p = and_parts (eqb a 39) (eqb b 39 && eqb c 39) h in
    let q = and_parts (eqb b 39) (eqb c 39) p.1 in
    (cs, (λ i. sym (eqb-true a 39 p.0) i ∷ sym (eqb-true b 39 q.0) i ∷ sym (eqb-true c 39 q.1) i ∷ cs))

tripled_finds_here : (bs rest : List ℕ) → codes "'''" ++ rest ≡ bs → IsFrontOf IsTripledRest bs 3
tripled_finds_here bs rest joins = record { text = codes "'''"; rest = rest; joins = joins; closed = inl refl; len = refl }

tripled_finds_later : (b : ℕ) (bs : List ℕ) (o : Option ℕ) → begins_three_quotes (b ∷ bs) ≡ false → FindsFront IsTripledRest bs o → FindsFront IsTripledRest (b ∷ bs) (option_map (λ n. n + 1) o)
tripled_finds_later b bs None other h = tt
tripled_finds_later b bs (Some n) other h = record {
  text = b ∷ h.text;
  rest = h.rest;
  joins = ap (λ l. b ∷ l) h.joins;
  closed = inr (sym (tripled_front b h.text h.rest h.closed) ∙ ap (λ l. begins_three_quotes (b ∷ l)) h.joins ∙ other, h.closed);
  len = omega (arith, h.len);
}

pub tripled_finds : (bytes : List ℕ) → FindsFront IsTripledRest bytes (tripled_len bytes)
tripled_finds [] = tt
tripled_finds (b ∷ bs) =
    cond_both (begins_three_quotes (b ∷ bs)) _ _ (FindsFront IsTripledRest (b ∷ bs))
    (λ three. let r = three_quotes (b ∷ bs) three in tripled_finds_here (b ∷ bs) r.0 r.1)
    (λ other. tripled_finds_later b bs _ other (tripled_finds bs))

quoted_front : (bytes : List ℕ) (o : Option ℕ) → Finds bytes o → FindsFront IsQuotedRest bytes o
quoted_front bytes None h = tt
quoted_front bytes (Some n) h = record { text = h.text; rest = h.rest; joins = h.joins; closed = h.closed; len = h.len }

-- a kind of string
abbrev pub IsStringKind : Kind → Type 0
IsStringKind PlainString = Unit {0}
IsStringKind MultilineString = Unit {0}
IsStringKind FormatString = Unit {0}
IsStringKind FormatMultilineString = Unit {0}
IsStringKind _ = ⊥

pub rest_finds : (k : Kind) (bytes : List ℕ) → IsStringKind k → FindsFront (IsRestOf k) bytes (rest_len k bytes)
rest_finds PlainString bytes is = quoted_front bytes _ (quoted_finds bytes)
rest_finds FormatString bytes is = quoted_front bytes _ (quoted_finds bytes)
rest_finds MultilineString bytes is = tripled_finds bytes
rest_finds FormatMultilineString bytes is = tripled_finds bytes
rest_finds _ bytes is = absurd is
