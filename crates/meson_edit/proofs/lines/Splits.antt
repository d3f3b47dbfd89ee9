-- Where the line begins that is last of some items, and where the first one ends.
use Rattle.meson_edit.proofs.Words.{◌≡◌, List, [], ◌∷◌, ◌++◌, refl, ap, ◌∙◌, ◌⊎◌, inl, inr, Lexeme, Kind, EndsItsLine, HasNoLineEnd}
use Rattle.meson_lex.specs.declared.kinds.Kind.TheVariants as k
use Rattle.meson_edit.specs.ExchangedLines.{IsRestOfLine}

line-or-not : (κ : Kind) → (κ ≡ k.LineEnd) ⊎ (κ ≡ k.LineEnd → ⊥)
line-or-not k.LineEnd = inl refl
line-or-not _ = inr (λ e. absurd cc)

-- ---- the last line

pub record LastLine (xs : List Lexeme) : Type 0 where
  pub front : List Lexeme
  pub head : List Lexeme
  pub parts : xs ≡ front ++ head
  pub ends : EndsItsLine front
  pub none : HasNoLineEnd head

one-longer : (x : Lexeme) (xs : List Lexeme) → LastLine xs → (x.kind ≡ k.LineEnd) ⊎ (x.kind ≡ k.LineEnd → ⊥) → LastLine (x ∷ xs)
one-longer x xs r is = by-front r.ends is
  where
    by-front : EndsItsLine r.front → (x.kind ≡ k.LineEnd) ⊎ (x.kind ≡ k.LineEnd → ⊥) → LastLine (x ∷ xs)
    by-front (inl e) (inl line) =
        record { front = x ∷ []; head = r.head; parts = ap (λ l. x ∷ l) (r.parts ∙ ap (λ l. l ++ r.head) e); ends = inr ([], x, line, refl); none = r.none }
    by-front (inl e) (inr other) =
        record { front = []; head = x ∷ r.head; parts = ap (λ l. x ∷ l) (r.parts ∙ ap (λ l. l ++ r.head) e); ends = inl refl; none = (other, r.none) }
    by-front (inr e) line =
        record { front = x ∷ r.front; head = r.head; parts = ap (λ l. x ∷ l) r.parts; ends = inr (x ∷ e.0, e.1, e.2, ap (λ l. x ∷ l) e.3); none = r.none }

pub last-line : (xs : List Lexeme) → LastLine xs
last-line [] = record { front = []; head = []; parts = refl; ends = inl refl; none = tt }
last-line (x ∷ xs) = one-longer x xs (last-line xs) (line-or-not x.kind)

-- ---- the first line

pub record FirstLine (xs : List Lexeme) : Type 0 where
  pub rest : List Lexeme
  pub back : List Lexeme
  pub parts : xs ≡ rest ++ back
  pub is_rest : IsRestOfLine rest back

one-before : (x : Lexeme) (xs : List Lexeme) → FirstLine xs → (x.kind ≡ k.LineEnd) ⊎ (x.kind ≡ k.LineEnd → ⊥) → FirstLine (x ∷ xs)
one-before x xs r (inl line) = record { rest = x ∷ []; back = xs; parts = refl; is_rest = inl ([], x, tt, line, refl) }
one-before x xs r (inr other) = record { rest = x ∷ r.rest; back = r.back; parts = ap (λ l. x ∷ l) r.parts; is_rest = longer r.is_rest }
  where
    longer : IsRestOfLine r.rest r.back → IsRestOfLine (x ∷ r.rest) r.back
    longer (inl e) = inl (x ∷ e.0, e.1, (other, e.2), e.3, ap (λ l. x ∷ l) e.4)
    longer (inr e) = inr ((other, e.0), e.1)

pub first-line : (xs : List Lexeme) → FirstLine xs
first-line [] = record { rest = []; back = []; parts = refl; is_rest = inr (tt, refl) }
first-line (x ∷ xs) = one-before x xs (first-line xs) (line-or-not x.kind)
