-- The splices of an insertion hang on the bytes of what is new alone.
use Rattle.std.proofs.Common.{◌≡◌, ℕ, zero, suc, ◌+◌, Bool, true, false, cond, List, [], ◌∷◌, ◌++◌, Option, Some, None, length, refl, sym, ap, ◌∙◌}
use Rattle.meson_lex.specs.Items.{Lexeme, joined}
use Rattle.meson_lex.proofs.Seams.{joined-append}
use Rattle.meson_layout.specs.Looks as look
use Rattle.meson_layout.specs.Pieces.{Piece, Keep, Change, splices, comma}
use Rattle.meson_layout.specs.Insertion.{plain_insertion, with_comma, without_comma, before_bracket, no_comma_on_line, stacked, inserted_by, inserted}

pub joined-same : (line x y more : List Lexeme) → joined x ≡ joined y → joined (line ++ (x ++ more)) ≡ joined (line ++ (y ++ more))
joined-same line x y more e =
    joined-append line (x ++ more) ∙ ap (λ t. joined line ++ t) (joined-append x more ∙ ap (λ t. t ++ joined more) e ∙ sym (joined-append y more)) ∙ sym (joined-append line (y ++ more))

line-same : (line x y : List Lexeme) → joined x ≡ joined y → joined (line ++ x) ≡ joined (line ++ y)
line-same line x y e = joined-append line x ∙ ap (λ t. joined line ++ t) e ∙ sym (joined-append line y)

-- the same pieces, but that other items of the same bytes come
abbrev SameText : List Piece → List Piece → Type 0
SameText [] [] = Unit {0}
SameText (Keep a ∷ ps) (Keep b ∷ qs) = (a ≡ b) × SameText ps qs
SameText (Change a x ∷ ps) (Change b y ∷ qs) = (a ≡ b) × (joined x ≡ joined y) × SameText ps qs
SameText _ _ = ⊥

splices-same : (file : List ℕ) (at : ℕ) (ps qs : List Piece) → SameText ps qs → splices file at ps ≡ splices file at qs
splices-same file at [] [] h = refl
splices-same file at [] (q ∷ qs) h = absurd h
splices-same file at (Keep a ∷ ps) [] h = absurd h
splices-same file at (Keep a ∷ ps) (Keep b ∷ qs) h = splices-same file (at + length (joined a)) ps qs h.1 ∙ ap (λ l. splices file (at + length (joined l)) qs) h.0
splices-same file at (Keep a ∷ ps) (Change b y ∷ qs) h = absurd h
splices-same file at (Change a x ∷ ps) [] h = absurd h
splices-same file at (Change a x ∷ ps) (Keep b ∷ qs) h = absurd h
splices-same file at (Change a x ∷ ps) (Change b y ∷ qs) h =
    let more = splices-same file (at + length (joined x)) ps qs h.2 ∙ ap (λ t. splices file (at + length t) qs) h.1 in
    λ i. record { file = file; at = at; was = joined (h.0 i); now = h.1 i } ∷ more i

module _ (left own right x y : List Lexeme) (e : joined x ≡ joined y) where
  abbrev Same : (List Lexeme → List Piece) → Type 0
  Same f = SameText (f x) (f y)

  plain-same : Same (plain_insertion left own right)
  plain-same = (refl, (refl, (refl, ap (λ t. 44 ∷ 32 ∷ t) e, (refl, tt))))

  bracket-same : (line : List Lexeme) → Same (before_bracket left own right line)
  bracket-same line = (refl, (refl, (refl, ap (λ t. 44 ∷ t) (line-same line x y e), (refl, tt))))

  comma-same : (n : ℕ) (line : List Lexeme) → Same (with_comma n left own right line)
  comma-same n line = (refl, (refl, (refl, (refl, joined-same line x y (comma ∷ []) e, (refl, tt)))))

  note-same : (n : ℕ) (line : List Lexeme) → Same (without_comma n left own right line)
  note-same zero line = bracket-same line
  note-same (suc n) line = (refl, (refl, (refl, refl, (refl, (refl, line-same line x y e, (refl, tt))))))

  close-same : (b : Bool) (line : List Lexeme) → SameText (cond b (before_bracket left own right line x) (plain_insertion left own right x)) (cond b (before_bracket left own right line y) (plain_insertion left own right y))
  close-same true line = bracket-same line
  close-same false line = plain-same

  no-comma-same : (o : Option ℕ) (line : List Lexeme) → Same (no_comma_on_line o left own right line)
  no-comma-same (Some n) line = note-same n line
  no-comma-same None line = close-same (look.closing_follows right) line

  stacked-same : (o : Option ℕ) (line : List Lexeme) → Same (stacked o left own right line)
  stacked-same (Some n) line = comma-same n line
  stacked-same None line = no-comma-same (look.note_len right) line

  line-by : (o : Option ℕ) → Same (inserted_by o left own right)
  line-by (Some n) = stacked-same (look.comma_note_len right) (look.last_few (suc n) left)
  line-by None = plain-same

  pub inserted-same : (file : List ℕ) → splices file 0 (inserted left own right x) ≡ splices file 0 (inserted left own right y)
  unfolding inserted
  inserted-same file = splices-same file 0 _ _ (line-by (look.line_before left))
