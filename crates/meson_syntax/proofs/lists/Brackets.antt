-- What stands before a bracket does not hang on what stands behind it.
use Rattle.std.proofs.Common.{◌≡◌, ℕ, Bool, true, false, List, [], ◌∷◌, ◌++◌, refl, sym, ◌∙◌, inl, inr, ◌⊎◌}
use Rattle.std.specs.Prelude.{◌==◌}
use Rattle.meson_lex.specs.declared.kinds.Kind.{Kind}
use Rattle.meson_syntax.specs.declared.operator.Bracket.{Bracket}
use Rattle.meson_syntax.specs.declared.operator.Bracket.TheVariants as bracket
use Rattle.meson_syntax.specs.Operators.{opens, closes}
use Rattle.meson_lex.specs.Items.{Lexeme, joined, IsItem, AreItems}
use Rattle.meson_lex.specs.Kinds.{OfKind}
use Rattle.meson_lex.specs.Neighbours.{MayStand, Shape, StandsBefore, blanks, closed, extendable, format_quoted, name, note, quoted, shape, word}
use Rattle.meson_lex.specs.Bytes.{begins, begins_bare_return, is_blank, is_equals, is_line_byte, is_quote, is_word_byte}
use Rattle.meson_lex.specs.Significant.{kept, Role, Opens, Closes, role}

-- a bracket's one text is one byte, and anything may stand behind it
pub record IsBracket (κ : Kind) (r : Role) : Type 0 where
  pub byte : ℕ
  pub is_text : (text : List ℕ) → OfKind κ text → text ≡ byte ∷ []
  pub no_return : (byte == 13) ≡ false
  pub stands : (text rest : List ℕ) → MayStand κ text rest
  pub is_role : role κ ≡ r
  pub drops : (text : List ℕ) → kept κ text ≡ []

unfoldable pub open-bracket : (b : Bracket) → IsBracket (opens b) Opens
open-bracket bracket.Round = record { byte = 40; is_text = λ text h. h; no_return = refl; stands = λ text rest. tt; is_role = refl; drops = λ text. refl }
open-bracket bracket.Square = record { byte = 91; is_text = λ text h. h; no_return = refl; stands = λ text rest. tt; is_role = refl; drops = λ text. refl }
open-bracket bracket.Curly = record { byte = 123; is_text = λ text h. h; no_return = refl; stands = λ text rest. tt; is_role = refl; drops = λ text. refl }

unfoldable pub close-bracket : (b : Bracket) → IsBracket (closes b) Closes
close-bracket bracket.Round = record { byte = 41; is_text = λ text h. h; no_return = refl; stands = λ text rest. tt; is_role = refl; drops = λ text. refl }
close-bracket bracket.Square = record { byte = 93; is_text = λ text h. h; no_return = refl; stands = λ text rest. tt; is_role = refl; drops = λ text. refl }
close-bracket bracket.Curly = record { byte = 125; is_text = λ text h. h; no_return = refl; stands = λ text rest. tt; is_role = refl; drops = λ text. refl }

begins-near : (test : ℕ → Bool) (front : List ℕ) (c : ℕ) (rest other : List ℕ) → begins test (front ++ c ∷ rest) ≡ begins test (front ++ c ∷ other)
begins-near test [] c rest other = refl
begins-near test (b ∷ front) c rest other = refl

bare-near : (front : List ℕ) (c : ℕ) (rest other : List ℕ) → (c == 13) ≡ false → begins_bare_return (front ++ c ∷ rest) ≡ begins_bare_return (front ++ c ∷ other)
bare-near [] c rest other h = rw h refl
bare-near (b ∷ []) c rest other h = refl
bare-near (b ∷ a ∷ front) c rest other h = refl

some-bytes : (front : List ℕ) (c : ℕ) (rest : List ℕ) → front ++ c ∷ rest ≡ [] → ⊥
some-bytes [] c rest e = absurd cc
some-bytes (b ∷ front) c rest e = absurd cc

module _ (front : List ℕ) (c : ℕ) (rest other : List ℕ) (no_return : (c == 13) ≡ false) where
  abbrev was : List ℕ
  was = front ++ c ∷ rest

  abbrev now : List ℕ
  now = front ++ c ∷ other

  near : (test : ℕ → Bool) → begins test was ≡ false → begins test now ≡ false
  near test h = sym (begins-near test front c rest other) ∙ h

  comment-near : (was ≡ []) ⊎ ((begins is_line_byte was ≡ true) × (begins_bare_return was ≡ false)) → (now ≡ []) ⊎ ((begins is_line_byte now ≡ true) × (begins_bare_return now ≡ false))
  comment-near (inl e) = absurd (some-bytes front c rest e)
  comment-near (inr h) = inr (sym (begins-near is_line_byte front c rest other) ∙ h.0, sym (bare-near front c rest other no_return) ∙ h.1)

  shape-near : (σ : Shape) (text : List ℕ) → StandsBefore σ text was → StandsBefore σ text now
  shape-near blanks text h = near is_blank h
  shape-near note text h = comment-near h
  shape-near name text h = (near is_word_byte h.0, λ f. near is_quote (h.1 f))
  shape-near word text h = near is_word_byte h
  shape-near quoted text h = λ e. near is_quote (h e)
  shape-near format_quoted text h = λ e. near is_quote (h e)
  shape-near extendable text h = near is_equals h
  shape-near closed text h = tt

  item-near : (x : Lexeme) → IsItem x was → IsItem x now
  item-near x h = (h.0, h.1, shape-near (shape x.kind) x.text h.2)

-- items before a bracket are items whatever stands behind it
pub items-near : (xs : List Lexeme) (c : ℕ) (rest other : List ℕ) → (c == 13) ≡ false → AreItems xs (c ∷ rest) → AreItems xs (c ∷ other)
items-near [] c rest other no_return h = tt
items-near (x ∷ xs) c rest other no_return h = (item-near-at x h.0, items-near xs c rest other no_return h.1) where
  item-near-at : (x : Lexeme) → IsItem x (joined xs ++ c ∷ rest) → IsItem x (joined xs ++ c ∷ other)
  item-near-at x g = item-near (joined xs) c rest other no_return x g
