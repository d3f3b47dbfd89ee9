-- The text of an item begins with an ASCII character; a line byte begins line ends alone, and a blank begins blanks alone.
use Rattle.meson_edit.proofs.Words.{◌≡◌, ℕ, ◌<◌, ◌≤◌, Bool, true, false, ◌&&◌, List, [], ◌∷◌, ◌++◌, refl, sym, ap, subst, inl, inr, ⊎_elim, leb, eqb-true}
use Rattle.meson_edit.proofs.Words.{arith, lit<, drop, get_or, and_parts, or_from, or_cases, is_blank, is_line_byte, is_word_start, is_digit, OfKind, spelling}
use Rattle.meson_edit.proofs.Words.{Kind, Blank, LineEnd, Comment, Continuation, Identifier, Integer, PlainString, MultilineString, FormatString}
use Rattle.meson_edit.proofs.Words.{FormatMultilineString}
use Rattle.std.proofs.Common.{leb-true}
use Rattle.meson_lex.proofs.FrontComplete.{apart, integer_parts}

pub record Begins (κ : Kind) (text : List ℕ) : Type 0 where
  pub byte : ℕ
  pub rest : List ℕ
  pub is_text : text ≡ byte ∷ rest
  pub low : byte < 128
  pub line : (κ ≡ LineEnd → ⊥) → is_line_byte byte ≡ false
  pub blank : (κ ≡ Blank → ⊥) → is_blank byte ≡ false

begins-same : (κ : Kind) (text other : List ℕ) → text ≡ other → Begins κ other → Begins κ text
begins-same κ text other e b = subst (Begins κ) (sym e) b

between : (m n b : ℕ) → n < 128 → (leb m b && leb b n) ≡ true → b < 128
between m n b small h = let high : b ≤ n = leb-true b n (and_parts (leb m b) (leb b n) h).1 in omega (arith, high)

byte-low : (b n : ℕ) → n < 128 → b ≡ n → b < 128
byte-low b n small e = subst (λ c. c < 128) (sym e) small

letter-low : (b : ℕ) → is_word_start b ≡ true → b < 128
letter-low b h =
    ⊎_elim
    (λ l. ⊎_elim (λ s. between 97 122 b (lit< tt) s) (λ c. between 65 90 b (lit< tt) c) (or_cases _ _ l))
    (λ u. byte-low b 95 (lit< tt) (eqb-true b 95 u)) (or_cases _ _ h)

blank-low : (b : ℕ) → is_blank b ≡ true → b < 128
blank-low b h = ⊎_elim (λ s. byte-low b 32 (lit< tt) (eqb-true b 32 s)) (λ t. byte-low b 9 (lit< tt) (eqb-true b 9 t)) (or_cases _ _ h)

no-blank : (test : ℕ → Bool) → test 32 ≡ false → test 9 ≡ false → (b : ℕ) → test b ≡ true → is_blank b ≡ false
no-blank test no_space no_tab b h = or_from _ _ (apart test b 32 h no_space) (apart test b 9 h no_tab)

no-line : (test : ℕ → Bool) → test 10 ≡ false → test 13 ≡ false → (b : ℕ) → test b ≡ true → is_line_byte b ≡ false
no-line test no_feed no_return b h = or_from _ _ (apart test b 10 h no_feed) (apart test b 13 h no_return)

at : (κ : Kind) (b : ℕ) (rest : List ℕ) → b < 128 → is_line_byte b ≡ false → is_blank b ≡ false → Begins κ (b ∷ rest)
at κ b rest low line blank = record { byte = b; rest = rest; is_text = refl; low = low; line = λ other. line; blank = λ other. blank }

begins-kind : (κ : Kind) (text : List ℕ) → OfKind κ text → Begins κ text
begins-kind Blank [] h = absurd h
begins-kind Blank (b ∷ bs) h = record { byte = b; rest = bs; is_text = refl; low = blank-low b h.0; line = λ other. no-line is_blank refl refl b h.0; blank = λ other. absurd (other refl) }
begins-kind LineEnd text (inl h) = begins-same LineEnd text (10 ∷ []) h (record { byte = 10; rest = []; is_text = refl; low = lit< tt; line = λ other. absurd (other refl); blank = λ other. refl })
begins-kind LineEnd text (inr h) = begins-same LineEnd text (13 ∷ 10 ∷ []) h (record { byte = 13; rest = 10 ∷ []; is_text = refl; low = lit< tt; line = λ other. absurd (other refl); blank = λ other. refl })
begins-kind Comment [] h = absurd h
begins-kind Comment (b ∷ bs) h = at Comment b bs (byte-low b 35 (lit< tt) h.0) (ap is_line_byte h.0) (ap is_blank h.0)
begins-kind Continuation text h = begins-same Continuation text _ (sym h.joins) (at Continuation 92 (h.blanks ++ (h.note ++ h.end)) (lit< tt) refl refl)
begins-kind Identifier [] h = absurd h.0
begins-kind Identifier (b ∷ bs) h = at Identifier b bs (letter-low b h.0.0) (no-line is_word_start refl refl b h.0.0) (no-blank is_word_start refl refl b h.0.0)
begins-kind Integer [] h = absurd cc
begins-kind Integer (b ∷ bs) h = let d = (integer_parts b bs h).0 in at Integer b bs (between 48 57 b (lit< tt) d) (no-line is_digit refl refl b d) (no-blank is_digit refl refl b d)
begins-kind PlainString text h = begins-same PlainString text _ (sym h.joins) (at PlainString 39 h.rest (lit< tt) refl refl)
begins-kind MultilineString text h = begins-same MultilineString text _ (sym h.joins) (at MultilineString 39 (39 ∷ 39 ∷ h.rest) (lit< tt) refl refl)
begins-kind FormatString text h = begins-same FormatString text _ (sym h.joins) (at FormatString 102 (39 ∷ h.rest) (lit< tt) refl refl)
begins-kind FormatMultilineString text h = begins-same FormatMultilineString text _ (sym h.joins) (at FormatMultilineString 102 (39 ∷ 39 ∷ 39 ∷ h.rest) (lit< tt) refl refl)
begins-kind κ text h = begins-same κ text (spelling κ) h (at κ (get_or (spelling κ) 0 0) (drop 1 (spelling κ)) (lit< tt) refl refl)

pub begins-with : (κ : Kind) (text : List ℕ) → OfKind κ text → Begins κ text
begins-with κ text h = begins-kind κ text h
