-- With which bytes the text of an item begins.
use Rattle.std.proofs.Common.{◌≡◌, ℕ, Bool, true, false, ◌||◌, List, [], ◌∷◌, ◌++◌, refl, sym, ap, ◌∙◌, subst, inl, inr, ◌⊎◌, ⊎_elim}
use Rattle.std.proofs.lemmas.Bool.{or_from, or_cases, eqb-true}
use Rattle.meson_lex.specs.declared.kinds.Kind.{Kind}
use Rattle.meson_lex.specs.declared.kinds.Kind.TheVariants.{Blank, LineEnd, Comment, Continuation, Comma, CloseRound, CloseSquare, CloseCurly, Identifier, Integer, PlainString, MultilineString, FormatString, FormatMultilineString}
use Rattle.meson_lex.specs.Bytes.{is_blank, is_line_byte, is_word_start, is_digit, is_word_byte, is_quote, is_equals, begins, begins_bare_return}
use Rattle.meson_lex.specs.Kinds.{OfKind, IsLineEnd}
use Rattle.meson_lex.specs.Items.{Lexeme}
use Rattle.meson_lex.proofs.FrontComplete.{apart, integer_parts}
use Rattle.meson_layout.specs.Looks as look

no_text : (k : Kind) → OfKind k [] → ⊥
no_text Blank h = h
no_text LineEnd (inl h) = absurd cc
no_text LineEnd (inr h) = absurd cc
no_text Comment h = h
no_text Continuation h = let e = h.joins in absurd cc
no_text Identifier h = h.0
no_text Integer h = absurd cc
no_text PlainString h = let e = h.joins in absurd cc
no_text MultilineString h = let e = h.joins in absurd cc
no_text FormatString h = let e = h.joins in absurd cc
no_text FormatMultilineString h = let e = h.joins in absurd cc
no_text _ h = absurd cc

-- an item's text is not empty
pub some_text : (k : Kind) (text : List ℕ) → OfKind k text → text ≡ [] → ⊥
some_text k text h e = no_text k (subst (OfKind k) e h)

not_blank : (test : ℕ → Bool) → test 32 ≡ false → test 9 ≡ false → (b : ℕ) → test b ≡ true → is_blank b ≡ false
not_blank test no_space no_tab b h = or_from _ _ (apart test b 32 h no_space) (apart test b 9 h no_tab)

begins-is : (test : ℕ → Bool) (text other : List ℕ) → text ≡ other → begins test other ≡ false → begins test text ≡ false
begins-is test text other e h = ap (begins test) e ∙ h

first_blank : (k : Kind) (text : List ℕ) → look.is_blank_kind k ≡ false → OfKind k text → begins is_blank text ≡ false
first_blank Blank text solid h = absurd cc
first_blank LineEnd text solid (inl h) = begins-is is_blank text (10 ∷ []) h refl
first_blank LineEnd text solid (inr h) = begins-is is_blank text (13 ∷ 10 ∷ []) h refl
first_blank Comment [] solid h = refl
first_blank Comment (b ∷ bs) solid h = ap is_blank h.0
first_blank Continuation text solid h = ap (begins is_blank) (sym h.joins)
first_blank Identifier [] solid h = refl
first_blank Identifier (b ∷ bs) solid h = not_blank is_word_start refl refl b h.0.0
first_blank Integer [] solid h = refl
first_blank Integer (b ∷ bs) solid h = not_blank is_digit refl refl b (integer_parts b bs h).0
first_blank PlainString text solid h = ap (begins is_blank) (sym h.joins)
first_blank MultilineString text solid h = ap (begins is_blank) (sym h.joins)
first_blank FormatString text solid h = ap (begins is_blank) (sym h.joins)
first_blank FormatMultilineString text solid h = ap (begins is_blank) (sym h.joins)
first_blank _ text solid h = ap (begins is_blank) h

-- what is no blank begins with none
pub no_blank_first : (x : Lexeme) → look.is_blank_kind x.kind ≡ false → OfKind x.kind x.text → begins is_blank x.text ≡ false
no_blank_first x solid h = first_blank x.kind x.text solid h

-- ---- what may stand behind nearly everything

-- no letter, digit, quote or `=` comes first
pub record IsSoft (text : List ℕ) : Type 0 where
  pub no_word : begins is_word_byte text ≡ false
  pub no_quote : begins is_quote text ≡ false
  pub no_equals : begins is_equals text ≡ false

soft_at : (b : ℕ) (bs : List ℕ) → is_word_byte b ≡ false → is_quote b ≡ false → is_equals b ≡ false → IsSoft (b ∷ bs)
soft_at b bs w q e = record { no_word = w; no_quote = q; no_equals = e }

soft_blank : (b : ℕ) (bs : List ℕ) → (b ≡ 32) ⊎ (b ≡ 9) → IsSoft (b ∷ bs)
soft_blank b bs (inl e) = subst (λ c. IsSoft (c ∷ bs)) (sym e) (soft_at 32 bs refl refl refl)
soft_blank b bs (inr e) = subst (λ c. IsSoft (c ∷ bs)) (sym e) (soft_at 9 bs refl refl refl)

blank_byte : (b : ℕ) → is_blank b ≡ true → (b ≡ 32) ⊎ (b ≡ 9)
blank_byte b h = ⊎_elim (λ e. inl (eqb-true b 32 e)) (λ e. inr (eqb-true b 9 e)) (or_cases _ _ h)

soft_text : (k : Kind) (text : List ℕ) → (look.is_gap k || (look.is_comma k || look.is_closing k)) ≡ true → OfKind k text → IsSoft text
soft_text Blank [] s h = absurd h
soft_text Blank (b ∷ bs) s h = soft_blank b bs (blank_byte b h.0)
soft_text LineEnd text s (inl h) = subst IsSoft (sym h) (soft_at 10 [] refl refl refl)
soft_text LineEnd text s (inr h) = subst IsSoft (sym h) (soft_at 13 (10 ∷ []) refl refl refl)
soft_text Comment [] s h = absurd h
soft_text Comment (b ∷ bs) s h = subst (λ c. IsSoft (c ∷ bs)) (sym h.0) (soft_at 35 bs refl refl refl)
soft_text Continuation text s h = subst IsSoft h.joins (soft_at 92 (h.blanks ++ (h.note ++ h.end)) refl refl refl)
soft_text Comma text s h = subst IsSoft (sym h) (soft_at 44 [] refl refl refl)
soft_text CloseRound text s h = subst IsSoft (sym h) (soft_at 41 [] refl refl refl)
soft_text CloseSquare text s h = subst IsSoft (sym h) (soft_at 93 [] refl refl refl)
soft_text CloseCurly text s h = subst IsSoft (sym h) (soft_at 125 [] refl refl refl)
soft_text _ text s h = absurd cc

-- no tokens, commas and closing brackets are such
pub soft_item : (x : Lexeme) → (look.is_gap x.kind || (look.is_comma x.kind || look.is_closing x.kind)) ≡ true → OfKind x.kind x.text → IsSoft x.text
soft_item x s h = soft_text x.kind x.text s h

-- ---- line ends

pub line_first : (text : List ℕ) → IsLineEnd text → (begins is_line_byte text ≡ true) × (begins_bare_return text ≡ false) × IsSoft text
line_first text (inl h) = subst (λ t. (begins is_line_byte t ≡ true) × (begins_bare_return t ≡ false) × IsSoft t) (sym h) (refl, refl, soft_at 10 [] refl refl refl)
line_first text (inr h) = subst (λ t. (begins is_line_byte t ≡ true) × (begins_bare_return t ≡ false) × IsSoft t) (sym h) (refl, refl, soft_at 13 (10 ∷ []) refl refl refl)

-- ---- line bytes

not_line : (test : ℕ → Bool) → test 10 ≡ false → test 13 ≡ false → (b : ℕ) → test b ≡ true → is_line_byte b ≡ false
not_line test no_feed no_return b h = or_from _ _ (apart test b 10 h no_feed) (apart test b 13 h no_return)

first_line : (k : Kind) (text : List ℕ) → look.is_line_end k ≡ false → OfKind k text → begins is_line_byte text ≡ false
first_line Blank [] solid h = refl
first_line Blank (b ∷ bs) solid h = not_line is_blank refl refl b h.0
first_line LineEnd text solid h = absurd cc
first_line Comment [] solid h = refl
first_line Comment (b ∷ bs) solid h = ap is_line_byte h.0
first_line Continuation text solid h = ap (begins is_line_byte) (sym h.joins)
first_line Identifier [] solid h = refl
first_line Identifier (b ∷ bs) solid h = not_line is_word_start refl refl b h.0.0
first_line Integer [] solid h = refl
first_line Integer (b ∷ bs) solid h = not_line is_digit refl refl b (integer_parts b bs h).0
first_line PlainString text solid h = ap (begins is_line_byte) (sym h.joins)
first_line MultilineString text solid h = ap (begins is_line_byte) (sym h.joins)
first_line FormatString text solid h = ap (begins is_line_byte) (sym h.joins)
first_line FormatMultilineString text solid h = ap (begins is_line_byte) (sym h.joins)
first_line _ text solid h = ap (begins is_line_byte) h

-- what is no line end begins with no line byte
pub no_line_first : (x : Lexeme) → look.is_line_end x.kind ≡ false → OfKind x.kind x.text → begins is_line_byte x.text ≡ false
no_line_first x solid h = first_line x.kind x.text solid h

pub line_item : (x : Lexeme) → look.is_line_end x.kind ≡ true → OfKind x.kind x.text → IsLineEnd x.text
line_item x h of = line_text x.kind x.text h of
  where
    line_text : (k : Kind) (text : List ℕ) → look.is_line_end k ≡ true → OfKind k text → IsLineEnd text
    line_text LineEnd text h of = of
    line_text _ text h of = absurd cc
