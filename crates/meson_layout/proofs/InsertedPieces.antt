-- What the pieces of an insertion make of a text with a list.
use Rattle.std.proofs.Common.{◌≡◌, ℕ, zero, suc, Bool, List, [], ◌∷◌, ◌++◌, Option, Some, None, take, drop, refl, sym, ap, ◌∙◌, subst, append_assoc}
use Rattle.std.proofs.lemmas.Bool.{cond_both}
use Rattle.std.proofs.lemmas.List.{append-nil, take-append-drop}
use Rattle.meson_lex.specs.declared.kinds.Kind.{Kind}
use Rattle.meson_lex.specs.Items.{Lexeme}
use Rattle.meson_lex.specs.Significant.{Word}
use Rattle.meson_layout.specs.Looks as look
use Rattle.meson_lex.specs.Words.{spoken}
use Rattle.meson_layout.specs.Words.{IsBehindElement}
use Rattle.meson_layout.specs.Pieces.{Piece, comma, space}
use Rattle.meson_layout.specs.inside.Pieces.{old_items, new_items}
use Rattle.meson_layout.specs.Insertion.{plain_insertion, with_comma, without_comma, before_bracket, no_comma_on_line, stacked, inserted_by, inserted}
use Rattle.meson_layout.proofs.Near.{AllGood, good-front, good-rest}
use Rattle.meson_layout.proofs.Ends.{back-joins, within-left, within-right, AllMild, gap-mild, gap-spoken}
use Rattle.meson_layout.proofs.Splits.{LineBack, line-before-split, NoteSplit, note-split, CommaSplit, comma-note-split, begun, white-gap}
use Rattle.meson_layout.proofs.Inserted.{Site, Fresh, Line, line-white-all, with_new, all_remarks, plain-made, bracket-made, comma-made, note-made}
use Rattle.meson_layout.proofs.Made.{Made}

-- The pieces exchange what stands between the two brackets.
pub record Shaped (front : List Lexeme) (o c : Lexeme) (rest items left right : List Lexeme) (words : List Word) (notes : List Lexeme) (ps : List Piece) : Type 0 where
  pub inner : List Lexeme
  pub old : old_items ps ≡ items
  pub new : new_items ps ≡ front ++ o ∷ (inner ++ c ∷ rest)
  pub made : Made o c left right inner words notes

regroup : (front left own xs end : List Lexeme) (o : Lexeme) → (front ++ o ∷ left) ++ (own ++ (xs ++ end)) ≡ front ++ o ∷ ((left ++ (own ++ xs)) ++ end)
regroup front left own xs end o = simp append_assoc

pub begins-close : (test : Kind → Bool) (xs : List Lexeme) (c : Lexeme) (rest : List Lexeme) → look.first_is test (xs ++ c ∷ rest) ≡ look.first_is test (xs ++ c ∷ [])
begins-close test [] c rest = refl
begins-close test (x ∷ xs) c rest = refl

module _ (front : List Lexeme) (o c : Lexeme) (rest left own right new : List Lexeme) (site : Site o c left own right) (behind : IsBehindElement (spoken right)) (fresh : Fresh new) where
  abbrev before : List Lexeme
  before = front ++ o ∷ left

  abbrev after : List Lexeme
  after = right ++ c ∷ rest

  abbrev Fits : List Piece → Type 0
  Fits ps = Shaped front o c rest (before ++ (own ++ after)) (left ++ own) right (with_new left own right new) (all_remarks left own right) ps

  nothing : before ++ (own ++ (after ++ [])) ≡ before ++ (own ++ after)
  nothing = ap (λ l. before ++ (own ++ l)) (append-nil after)

  plain-shaped : Fits (plain_insertion before own after new)
  plain-shaped = record {
    inner = left ++ (own ++ (comma ∷ space ∷ (new ++ right)));
    old = nothing;
    new = ap (λ l. before ++ (own ++ (comma ∷ space ∷ l))) (ap (λ l. new ++ l) (append-nil after) ∙ sym (append_assoc new right (c ∷ rest)))
        ∙ regroup front left own (comma ∷ space ∷ (new ++ right)) (c ∷ rest) o;
    made = plain-made o c left own right site behind new fresh;
  }

  bracket-shaped : (line : List Lexeme) → Line line → Fits (before_bracket before own after line new)
  bracket-shaped line is = record {
    inner = left ++ (own ++ (comma ∷ (line ++ (new ++ right))));
    old = nothing;
    new = ap (λ l. before ++ (own ++ (comma ∷ l))) (append_assoc line new (after ++ []) ∙ ap (λ l. line ++ l) (ap (λ l. new ++ l) (append-nil after) ∙ sym (append_assoc new right (c ∷ rest))) ∙ sym (append_assoc line (new ++ right) (c ∷ rest)))
        ∙ regroup front left own (comma ∷ (line ++ (new ++ right))) (c ∷ rest) o;
    made = bracket-made o c left own right site behind new fresh line is;
  }

  comma-shaped : (n : ℕ) (line : List Lexeme) → Line line → CommaSplit n after → Fits (with_comma n before own after line new)
  comma-shaped n line is s =
      let w = within-right right c rest (take n after) (drop n after) site.closes (sym (take-append-drop n after)) s.mild in
      let ends = sym (begins-close look.is_line_end w.0 c rest) ∙ sym (ap (look.first_is look.is_line_end) w.2) ∙ s.ends in
      record {
        inner = left ++ (own ++ (take n after ++ (line ++ (new ++ (comma ∷ w.0)))));
        old = ap (λ l. before ++ (own ++ l)) (ap (λ l. take n after ++ l) (append-nil (drop n after)) ∙ take-append-drop n after);
        new = ap (λ l. before ++ (own ++ (take n after ++ l))) (ap (λ l. (line ++ (new ++ comma ∷ [])) ++ l) (append-nil (drop n after) ∙ w.2) ∙ append_assoc line (new ++ comma ∷ []) (w.0 ++ c ∷ rest) ∙ ap (λ l. line ++ l) (append_assoc new (comma ∷ []) (w.0 ++ c ∷ rest)))
            ∙ ap (λ l. before ++ (own ++ l)) (spread (take n after) line new w.0)
            ∙ regroup front left own (take n after ++ (line ++ (new ++ (comma ∷ w.0)))) (c ∷ rest) o;
        made = comma-made o c left own right site behind new fresh line is (take n after) w.0 w.1 s.says ends;
      }
    where
      spread : (a b d e : List Lexeme) → a ++ (b ++ (d ++ (comma ∷ (e ++ c ∷ rest)))) ≡ (a ++ (b ++ (d ++ (comma ∷ e)))) ++ c ∷ rest
      spread a b d e = simp append_assoc

  note-shaped : (n : ℕ) (line : List Lexeme) → Line line → NoteSplit n after → Fits (without_comma n before own after line new)
  note-shaped zero line is s = bracket-shaped line is
  note-shaped (suc n) line is s =
      let w = within-right right c rest (take (suc n) after) (drop (suc n) after) site.closes (sym (take-append-drop (suc n) after)) (gap-mild _ s.gap) in
      let ends = sym (begins-close look.is_line_end w.0 c rest) ∙ sym (ap (look.first_is look.is_line_end) w.2) ∙ s.ends in
      record {
        inner = left ++ (own ++ (comma ∷ (take (suc n) after ++ (line ++ (new ++ w.0)))));
        old = ap (λ l. before ++ (own ++ l)) (ap (λ l. take (suc n) after ++ l) (append-nil (drop (suc n) after)) ∙ take-append-drop (suc n) after);
        new = ap (λ l. before ++ (own ++ (comma ∷ (take (suc n) after ++ l)))) (ap (λ l. (line ++ new) ++ l) (append-nil (drop (suc n) after) ∙ w.2) ∙ append_assoc line new (w.0 ++ c ∷ rest))
            ∙ ap (λ l. before ++ (own ++ (comma ∷ l))) (spread (take (suc n) after) line new w.0)
            ∙ regroup front left own (comma ∷ (take (suc n) after ++ (line ++ (new ++ w.0)))) (c ∷ rest) o;
        made = note-made o c left own right site behind new fresh line is (take (suc n) after) w.0 w.1 (gap-spoken _ s.gap) (begun look.is_line_end _ ends);
      }
    where
      spread : (a b d e : List Lexeme) → a ++ (b ++ (d ++ (e ++ c ∷ rest))) ≡ (a ++ (b ++ (d ++ e))) ++ c ∷ rest
      spread a b d e = simp append_assoc

  -- the line end before the element, with its indent
  line-of : (n : ℕ) → LineBack n before → Line (look.last_few (suc n) before)
  line-of n s =
      let white = line-white-all s.end s.blank s.is_end s.is_blank in
      let mild : AllMild (look.last_few (suc n) before) = subst AllMild (sym s.line) (gap-mild (s.end ∷ s.blank) (white-gap (s.end ∷ s.blank) white)) in
      let w = within-left front o left (look.but_last (suc n) before) (look.last_few (suc n) before) site.opens (sym (back-joins before (suc n))) mild in
      record {
        end = s.end;
        blank = s.blank;
        is_end = s.is_end;
        is_blank = s.is_blank;
        is = s.line;
        good = good-rest w.0 (look.last_few (suc n) before) (subst AllGood w.1 (good-front left (own ++ right) site.good));
      }

  at-none : (line : List Lexeme) → Line line → Fits (no_comma_on_line None before own after line new)
  at-none line is = cond_both (look.closing_follows after) _ _ Fits (λ h. bracket-shaped line is) (λ h. plain-shaped)

  at-note : (o : Option ℕ) (line : List Lexeme) → Line line → look.note_len after ≡ o → Fits (no_comma_on_line o before own after line new)
  at-note (Some n) line is e = note-shaped n line is (note-split after n e)
  at-note None line is e = at-none line is

  at-comma : (o : Option ℕ) (line : List Lexeme) → Line line → look.comma_note_len after ≡ o → Fits (stacked o before own after line new)
  at-comma (Some n) line is e = comma-shaped n line is (comma-note-split after n e)
  at-comma None line is e = at-note (look.note_len after) line is refl

  at-line : (o : Option ℕ) → look.line_before before ≡ o → Fits (inserted_by o before own after new)
  at-line (Some n) e = at-comma (look.comma_note_len after) (look.last_few (suc n) before) (line-of n (line-before-split before n e)) refl
  at-line None e = plain-shaped

  pub inserted-shaped : Fits (inserted before own after new)
  unfolding inserted
  inserted-shaped = at-line (look.line_before before) refl
