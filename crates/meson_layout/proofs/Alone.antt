-- A list alone: its items are those of its own text, and what stands before it may be one item.
use Rattle.std.proofs.Common.{◌≡◌, ℕ, suc, ◌-◌, ◌<◌, ◌==◌, List, [], ◌∷◌, ◌++◌, None, length, refl, sym, ap, ◌∙◌, subst, arith, append_assoc}
use Rattle.std.proofs.lemmas.Bool.{cond-false, ne_eqb}
use Rattle.meson_lex.specs.declared.kinds.Kind.{Kind}
use Rattle.meson_lex.specs.declared.kinds.Kind.TheVariants as k
use Rattle.meson_lex.specs.declared.kinds.Span.{Span}
use Rattle.meson_lex.specs.Bytes.{begins_bare_return, first_bare_return}
use Rattle.meson_lex.specs.Items.{AreItems, IsItemList, Lexeme, joined}
use Rattle.meson_lex.specs.Neighbours.{Shape, StandsBefore, blanks, closed, extendable, format_quoted, name, note, quoted, shape, word}
use Rattle.meson_lex.specs.Significant.{Closes, role}
use Rattle.meson_lex.proofs.Seams.{AreItems-split}
use Rattle.meson_lex.proofs.Standing.{list_returns}
use Rattle.meson_layout.specs.Edited.{ListOfItems}
use Rattle.meson_layout.specs.Layout.{Parts, before_len, split_at_span, parts_of_items}
use Rattle.meson_layout.specs.Local.{alone, nearer_span}
use Rattle.meson_layout.proofs.FirstBytes.{some_text}
use Rattle.meson_layout.proofs.Made.{listed-joined}
use Rattle.meson_layout.proofs.Near.{bare-none, bare-same, stands-same}

-- ---- the items of the list's text

stands-alike : (σ : Shape) (text : List ℕ) (b : ℕ) (us vs : List ℕ) → begins_bare_return (b ∷ us) ≡ begins_bare_return (b ∷ vs) → StandsBefore σ text (b ∷ us) → StandsBefore σ text (b ∷ vs)
stands-alike blanks text b us vs e h = h
stands-alike note text b us vs e h = stands-same note text b us vs e h
stands-alike name text b us vs e h = stands-same name text b us vs e h
stands-alike word text b us vs e h = h
stands-alike quoted text b us vs e h = h
stands-alike format_quoted text b us vs e h = h
stands-alike extendable text b us vs e h = h
stands-alike closed text b us vs e h = tt

other-end : (σ : Shape) (text next rest : List ℕ) → (next ≡ [] → ⊥) → first_bare_return next ≡ None → StandsBefore σ text (next ++ rest) → StandsBefore σ text (next ++ [])
other-end σ text [] rest some none h = absurd (some refl)
other-end σ text (b ∷ bs) rest some none h = let bare = bare-none b bs none in stands-alike σ text b (bs ++ rest) (bs ++ []) (bare-same b bs rest bare ∙ sym (bare-same b bs [] bare)) h

closed-shape : (κ : Kind) → role κ ≡ Closes → shape κ ≡ closed
closed-shape k.CloseRound h = refl
closed-shape k.CloseSquare h = refl
closed-shape k.CloseCurly h = refl
closed-shape _ h = absurd cc

some-bytes : (xs : List Lexeme) (c : Lexeme) (rest : List ℕ) → AreItems (xs ++ c ∷ []) rest → joined (xs ++ c ∷ []) ≡ [] → ⊥
some-bytes [] c rest h e = first-some c.text [] (some_text c.kind c.text h.0.0) e
  where
    first-some : (t more : List ℕ) → (t ≡ [] → ⊥) → t ++ more ≡ [] → ⊥
    first-some [] more some e = some refl
    first-some (b ∷ bs) more some e = absurd cc
some-bytes (x ∷ xs) c rest h e = first-some x.text (joined (xs ++ c ∷ [])) (some_text x.kind x.text h.0.0) e
  where
    first-some : (t more : List ℕ) → (t ≡ [] → ⊥) → t ++ more ≡ [] → ⊥
    first-some [] more some e = some refl
    first-some (b ∷ bs) more some e = absurd cc

-- nothing behind a closing bracket makes another item of it
closed-end : (c : Lexeme) → shape c.kind ≡ closed → (xs : List Lexeme) (rest : List ℕ) → AreItems (xs ++ c ∷ []) rest → AreItems (xs ++ c ∷ []) []
closed-end c is [] rest h = ((h.0.0, h.0.1, subst (λ σ. StandsBefore σ c.text []) (sym is) tt), tt)
closed-end c is (x ∷ xs) rest h =
    ((h.0.0, h.0.1, other-end (shape x.kind) x.text (joined (xs ++ c ∷ [])) rest (some-bytes xs c rest h.1) (list_returns (xs ++ c ∷ []) rest h.1) h.0.2), closed-end c is xs rest h.1)

module _ (source : List ℕ) (items : List Lexeme) (list : IsItemList source items) (l : ListOfItems items) where
  whole : l.front ++ (alone items l ++ l.rest) ≡ items
  whole = ap (λ xs. l.front ++ l.open_item ∷ xs) (append_assoc l.inner (l.close_item ∷ []) l.rest) ∙ sym l.parts

  pub alone-items : IsItemList (joined (alone items l)) (alone items l)
  alone-items =
      let behind = (AreItems-split l.front (alone items l ++ l.rest) [] (subst (λ xs. AreItems xs []) (sym whole) list.each)).1 in
      let here = (AreItems-split (alone items l) l.rest [] behind).0 in
      record { joins = refl; each = closed-end l.close_item (closed-shape l.close_item.kind l.closes) (l.open_item ∷ l.inner) (joined l.rest ++ []) here }

  pub source-is : joined l.front ++ (joined (alone items l) ++ joined l.rest) ≡ source
  source-is = sym (listed-joined l.front l.inner l.rest l.open_item l.close_item) ∙ ap joined (sym l.parts) ∙ list.joins

-- ---- what stands before it

-- an offset behind the first item
before-behind : (n : ℕ) (w : Lexeme) (xs : List Lexeme) → (n ≡ 0 → ⊥) → before_len n (w ∷ xs) ≡ suc (before_len (n - length w.text) xs)
before-behind n w xs some = cond-false (n == 0) _ _ (ne_eqb n 0 some)

pub first-behind : (n : ℕ) (w : Lexeme) (xs : List Lexeme) → length w.text < n → before_len n (w ∷ xs) ≡ suc (before_len (n - length w.text) xs)
first-behind n w xs behind = before-behind n w xs (λ e. omega arith)

abbrev pub behind_first : Lexeme → Parts → Parts
behind_first w q = record { left = w ∷ q.left; own = q.own; right = q.right }

-- the parts of what stands behind the first item
pub parts-behind : (w : Lexeme) (xs : List Lexeme) (s : Span) → length w.text < s.from → split_at_span s (w ∷ xs) ≡ behind_first w (split_at_span (nearer_span (length w.text) s) xs)
unfolding split_at_span
parts-behind w xs s behind =
    let size : s.to - s.from ≡ s.to - length w.text - (s.from - length w.text) = omega arith in
    ap (λ n. parts_of_items n (s.to - s.from) (w ∷ xs)) (first-behind s.from w xs behind)
    ∙ ap (λ m. parts_of_items (suc (before_len (s.from - length w.text) xs)) m (w ∷ xs)) size
