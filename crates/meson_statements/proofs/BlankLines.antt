-- Whole lines are lines of the same statements with empty lines before them and after them.
use Rattle.std.proofs.Common.{◌≡◌, ℕ, zero, suc, List, [], ◌∷◌, ◌++◌, refl, sym, ap, ap₂, ◌∙◌, subst, inl, inr, append_assoc}
use Rattle.std.proofs.lemmas.List.{append-nil}
use Rattle.std.proofs.lemmas.Str.{IsUtf8-append, IsUtf8-nil}
use Rattle.std.specs.List.{repeat}
use Rattle.std.specs.Str.{IsUtf8}
use Rattle.meson_lex.specs.declared.kinds.Kind.TheVariants as k
use Rattle.meson_lex.specs.Items.{Lexeme, joined, IsItem, AreItems}
use Rattle.meson_lex.specs.Kinds.{IsLineEnd}
use Rattle.meson_lex.specs.Significant.{State, start, after, emitted}
use Rattle.meson_lex.proofs.Seams.{AreItems-append, joined-append}
use Rattle.meson_syntax.specs.Tree.{Nowhere, Statement, statements_of}
use Rattle.meson_edit.specs.Blocks.{EndsItsLine}
use Rattle.meson_edit.specs.ExchangedLines.{IsLinesText, statements_words_of}
use Rattle.meson_edit.proofs.exchange.Appended.{break-utf8}
use Rattle.meson_edit.proofs.exchange.Ends.{end-changed, line-stands}
use Rattle.meson_edit.proofs.exchange.StatementLines.{statements-lines}
use Rattle.meson_edit.proofs.exchange.States.{after_words, lines-state, state-is}
use Rattle.meson_layout.proofs.StatementLaws.{emitted-append}
use Rattle.meson_statements.specs.Gaps.{line_ends}
use Rattle.meson_statements.specs.Indented.{lexeme}
use Rattle.meson_statements.proofs.Continuing.{end-none}

module _ (end : List ℕ) (is_end : IsLineEnd end) where
  -- ---- empty lines

  abbrev line : Lexeme
  line = lexeme k.LineEnd end

  abbrev empty : ℕ → List Lexeme
  empty n = repeat n (line ∷ [])

  empty-joined : (n : ℕ) → joined (empty n) ≡ line_ends n end
  empty-joined zero = refl
  empty-joined (suc n) = ap (λ t. end ++ t) (empty-joined n)

  line-item : (rest : List ℕ) → IsItem line rest
  line-item rest = (is_end, end-none end is_end, tt)

  empty-items : (n : ℕ) (rest : List ℕ) → AreItems (empty n) rest
  empty-items zero rest = tt
  empty-items (suc n) rest = (line-item (joined (empty n) ++ rest), empty-items n rest)

  -- they say nothing where a line begins
  empty-silent : (n : ℕ) → emitted start (empty n) ≡ []
  empty-silent zero = refl
  empty-silent (suc n) = empty-silent n

  empty-start : (n : ℕ) → after start (empty n) ≡ start
  empty-start zero = refl
  empty-start (suc n) = empty-start n

  empty-ends : (n : ℕ) → EndsItsLine (empty n)
  empty-ends zero = inl refl
  empty-ends (suc n) = inr (behind n (empty-ends n))
    where
      behind : (n : ℕ) → EndsItsLine (empty n) → (front : List Lexeme) × (x : Lexeme) × (x.kind ≡ k.LineEnd) × (line ∷ empty n ≡ front ++ x ∷ [])
      behind n (inl e) = ([], line, refl, ap (λ l. line ∷ l) e)
      behind n (inr e) = (line ∷ e.0, e.1, e.2, ap (λ l. line ∷ l) e.3)

  pub empty-utf8 : (n : ℕ) → IsUtf8 (line_ends n end)
  empty-utf8 zero = IsUtf8-nil
  empty-utf8 (suc n) = IsUtf8-append end (line_ends n end) (break-utf8 [] end (inl is_end)) (empty-utf8 n)

  -- ---- with lines

  -- what ends its line, after what does
  both-end : (xs ys : List Lexeme) → EndsItsLine xs → EndsItsLine ys → EndsItsLine (xs ++ ys)
  both-end xs ys h (inl e) = subst EndsItsLine (sym (ap (λ l. xs ++ l) e ∙ append-nil xs)) h
  both-end xs ys h (inr e) = inr (xs ++ e.0, e.1, e.2, ap (λ l. xs ++ l) e.3 ∙ sym (append_assoc xs e.0 (e.1 ∷ [])))

  module _ (text : List ℕ) (new : List (Statement Nowhere)) (l : IsLinesText text new) (n : ℕ) where
    pub empty-before : IsLinesText (line_ends n end ++ text) new
    empty-before = record {
      items = empty n ++ l.items;
      are_items = record {
        joins = joined-append (empty n) l.items ∙ ap₂ (λ u v. u ++ v) (empty-joined n) l.are_items.joins;
        each = AreItems-append (empty n) l.items [] (empty-items n (joined l.items ++ [])) l.are_items.each;
      };
      is_words =
          emitted-append start (empty n) l.items
          ∙ ap₂ (λ ws (s : State). ws ++ emitted s l.items) (empty-silent n) (empty-start n)
          ∙ l.is_words;
      ends = both-end (empty n) l.items (empty-ends n) l.ends;
    }

    begins : after start l.items ≡ start
    begins =
        state-is start l.items ∙ ap (after_words start) l.is_words ∙ lines-state (statements_words_of new) (statements-lines Nowhere (statements_of new))

    stand : (m : ℕ) → AreItems l.items (joined (empty m) ++ [])
    stand zero = l.are_items.each
    stand (suc m) =
        subst (AreItems l.items) (sym (append_assoc end (joined (empty m)) []))
        (end-changed l.items [] (end ++ (joined (empty m) ++ [])) l.are_items.each (λ front x e h. line-stands x [] end (joined (empty m) ++ []) is_end h))

    pub empty-after : IsLinesText (text ++ line_ends n end) new
    empty-after = record {
      items = l.items ++ empty n;
      are_items = record {
        joins = joined-append l.items (empty n) ∙ ap₂ (λ u v. u ++ v) l.are_items.joins (empty-joined n);
        each = AreItems-append l.items (empty n) [] (stand n) (empty-items n []);
      };
      is_words =
          emitted-append start l.items (empty n)
          ∙ ap (λ (s : State). emitted start l.items ++ emitted s (empty n)) begins
          ∙ ap (λ ws. emitted start l.items ++ ws) (empty-silent n)
          ∙ append-nil (emitted start l.items)
          ∙ l.is_words;
      ends = both-end l.items (empty n) l.ends (empty-ends n);
    }
