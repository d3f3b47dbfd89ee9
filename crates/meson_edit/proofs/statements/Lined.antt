-- Statements inserted on lines of their own: the new text spells the tree with them, and all old bytes stay.
use Rattle.meson_edit.proofs.Words.{option_map, option_and_then, ◌≡◌, ℕ, suc, true, List, [], ◌∷◌, ◌++◌, ◌⊎◌, inl, inr, length, Some, Ok, refl, sym, ap, subst, ◌∙◌}
use Rattle.meson_edit.proofs.Words.{append_assoc, append-nil, and_parts, not, Lexeme, joined, joined-append, IsItemList, Span, one_list}
use Rattle.meson_edit.proofs.Words.{patched_by, layout_of, lines-law, Primitive, Nowhere, Plain, Statement, File, erase, Limits, IsSpannedWithin, Kind}
use Rattle.meson_edit.proofs.Words.{some-injective, map-some, statement_words, file_words, block_without, LevelFile, Spells, IsLineEnd, BlockAt, block_at, statement_in, EndsItsLine, HasNoLineEnd, IsBreak, LineStands, statement_span}
use Rattle.meson_edit.proofs.Words.{Written, LinePlace, above, below, at_end, Lines, edited, line_spot, span_of_statement, primitive_of, EditKeeps, LinesSpell}
use Rattle.std.proofs.lemmas.List.{reverse-reverse}
use Rattle.std.specs.Prelude.{reverse}
use Rattle.meson_lex.specs.declared.kinds.Kind.TheVariants as k
use Rattle.meson_layout.specs.declared.primitive.Primitive.TheVariants as layout
use Rattle.meson_layout.specs.declared.primitive.LineSpot.{LineSpot}
use Rattle.meson_layout.specs.declared.primitive.LineSpot.TheVariants as spot
use Rattle.meson_layout.specs.Layout.{IsSpotOf}
use Rattle.meson_layout.specs.Looks as look
use Rattle.meson_layout.specs.Statements.{at_line_start}
use Rattle.meson_layout.specs.FileLaws.{is_in_line, ends_line, IsFrontOf, IsAbove, IsBelow}
use Rattle.meson_layout.proofs.Ends.{last-one, line-kind}
use Rattle.meson_edit.specs.ExchangedLines.{statements_in, exchanged_in, StandsFor, AreLinesOf, IsRestOfLine}
use Rattle.meson_edit.proofs.Coding.{coding-law, texts-law}
use Rattle.meson_edit.proofs.exchange.Standing.{line-stands}
use Rattle.meson_edit.proofs.lines.Exchanged.{quiet-taken, file-end-stands, lines-spelled}
use Rattle.meson_edit.proofs.lines.Splits.{last-line, first-line}
use Rattle.meson_edit.proofs.lines.Statements.{statement-lines}
use Rattle.meson_edit.proofs.statements.Erasing.{Names, names}
use Rattle.meson_edit.proofs.statements.Removed.{span-place}

-- ---- lines of items

ends-by : (xs rev : List Lexeme) → reverse xs ≡ rev → at_line_start rev ≡ true → EndsItsLine xs
ends-by xs [] is h = inl (sym (reverse-reverse xs) ∙ ap reverse is)
ends-by xs (x ∷ rev) is h = inr (reverse rev, x, line-kind x.kind h, last-one xs x rev is)

ends-its-line : (xs : List Lexeme) → ends_line xs ≡ true → EndsItsLine xs
ends-its-line xs h = ends-by xs (reverse xs) refl h

no-line-kind : (κ : Kind) → not (look.is_line_end κ) ≡ true → κ ≡ k.LineEnd → ⊥
no-line-kind k.LineEnd h is = absurd cc
no-line-kind _ h is = absurd cc

no-line-end : (xs : List Lexeme) → is_in_line xs ≡ true → HasNoLineEnd xs
no-line-end [] h = tt
no-line-end (x ∷ xs) h = let p = and_parts _ _ h in (no-line-kind x.kind p.0, no-line-end xs p.1)

rest-of-line : (row end back : List Lexeme) → is_in_line row ≡ true
    → ((x : Lexeme) × (look.is_line_end x.kind ≡ true) × (end ≡ x ∷ [])) ⊎ ((end ≡ []) × (back ≡ []))
    → IsRestOfLine (row ++ end) back
rest-of-line row end back none (inl e) = inl (row, e.0, no-line-end row none, line-kind e.0.kind e.1, ap (λ l. row ++ l) e.2)
rest-of-line row end back none (inr e) = inr (subst HasNoLineEnd (sym (ap (λ l. row ++ l) e.0 ∙ append-nil row)) (no-line-end row none), e.1)

-- ---- where the new lines are

-- The lines come after items that stand for all before them in a block, and before the others.
record LinesCome (f : File Span) (items : List Lexeme) (place : LinePlace) (new : List (Statement Nowhere)) (t : Plain) : Type 0 where
  spot : LineSpot
  is_spot : line_spot f place ≡ Some spot
  placed : IsSpotOf items spot
  path : List ℕ
  block : BlockAt Nowhere
  is_block : block_at (erase f) path ≡ Some block
  from : ℕ
  is_tree : block.back (exchanged_in from 0 new block.inside) ≡ t
  stands : (front : List Lexeme) → IsFrontOf items spot front → StandsFor (erase f) path block.inside from 0 front []

module _ (limits : Limits) (bytes : List ℕ) (f : File Span) (s : IsSpannedWithin limits bytes f) (items : List Lexeme) (are : IsItemList bytes items) where
  -- beside a statement
  module _ (path : List ℕ) (n : ℕ) (make : BlockAt Nowhere → Plain) (t : Plain) (v : Names f path n make t) where
    abbrev own_span : Span
    own_span = statement_span v.node

    is-span : span_of_statement f path n ≡ Some own_span
    is-span = ap (λ o. option_map statement_span (option_and_then (λ b. statement_in b.inside n) o)) v.is_place ∙ ap (option_map statement_span) v.is_node

    line : LineStands items own_span (statement_words v.node) (file_words (v.place.back (block_without v.place.inside n)))
    line =
        subst (λ xs. LineStands xs own_span _ _) (one_list bytes s.reads.spells.items items s.reads.spells.are_items are)
        (line-stands limits bytes f s path v.place v.is_place n v.node v.is_node)

    lines-of : (front head rest back : List Lexeme) → line.left ≡ front ++ head → EndsItsLine front → HasNoLineEnd head → line.right ≡ rest ++ back
        → IsRestOfLine rest back → AreLinesOf (erase f) path v.bare.inside n front (head ++ (line.own ++ rest)) back
    lines-of =
        statement-lines limits bytes f s path v.place v.is_place v.bare v.is_bare n v.node v.is_node line.left line.own line.right
        (subst (IsItemList bytes) line.parts are) (sym line.from) (sym line.to)

    above-stands : (front : List Lexeme) → IsAbove front line.left → StandsFor (erase f) path v.bare.inside n 0 front []
    above-stands front a =
        let r = first-line line.right in
        let l = lines-of (front ++ a.notes) a.head r.rest r.back (a.parts ∙ sym (append_assoc front a.notes a.head)) (ends-its-line (front ++ a.notes) a.notes_end)
        (no-line-end a.head a.in_line) r.parts r.is_rest in
        let q = quiet-taken (erase f) path v.bare v.is_bare n 0 front a.notes [] a.says_nothing l.before in
        record { before = q.before; is_before = q.is_before; is_left = q.is_left; is_was = refl }

    below-stands : (front : List Lexeme) → IsBelow line.left line.own line.right front → StandsFor (erase f) path v.bare.inside (suc n) 0 front []
    below-stands front b =
        let h = last-line line.left in
        let rest = b.row ++ b.end in
        let l = lines-of h.front h.head rest b.back h.parts h.ends h.none (b.parts ∙ sym (append_assoc b.row b.end b.back))
        (rest-of-line b.row b.end b.back b.in_line b.is_end) in
        subst (λ xs. StandsFor (erase f) path v.bare.inside (suc n) 0 xs [])
        (sym (b.is_front ∙ ap (λ u. u ++ (line.own ++ rest)) h.parts ∙ append_assoc h.front h.head (line.own ++ rest))) l.behind

  -- at any place
  lines-come : (place : LinePlace) (new : Written (List (Statement Nowhere))) (t : Plain) → edited (Lines place new) (erase f) ≡ Some t → LinesCome f items place new.node t
  lines-come (above path n) new t is =
      let make = λ (b : BlockAt Nowhere). b.back (exchanged_in n 0 new.node b.inside) in
      let v = names f path n make t is in
      let l = line path n make t v in
      record {
        spot = spot.Above (statement_span v.node);
        is_spot = ap (option_map spot.Above) (is-span path n make t v);
        placed = span-place items (statement_span v.node) _ _ l;
        path = path;
        block = v.bare;
        is_block = v.is_bare;
        from = n;
        is_tree = v.makes;
        stands = λ front h. above-stands path n make t v front (h l.left l.own l.right l.parts l.from l.to);
      }
  lines-come (below path n) new t is =
      let make = λ (b : BlockAt Nowhere). b.back (exchanged_in (suc n) 0 new.node b.inside) in
      let v = names f path n make t is in
      let l = line path n make t v in
      record {
        spot = spot.Below (statement_span v.node);
        is_spot = ap (option_map spot.Below) (is-span path n make t v);
        placed = span-place items (statement_span v.node) _ _ l;
        path = path;
        block = v.bare;
        is_block = v.is_bare;
        from = suc n;
        is_tree = v.makes;
        stands = λ front h. below-stands path n make t v front (h l.left l.own l.right l.parts l.from l.to);
      }
  lines-come at_end new t is =
      let m = map-some (λ (b : BlockAt Nowhere). b.back (exchanged_in (length (statements_in b.inside)) 0 new.node b.inside)) (block_at (erase f) []) t is in
      let b = m.0 in
      record {
        spot = spot.End;
        is_spot = refl;
        placed = tt;
        path = [];
        block = b;
        is_block = m.1;
        from = length (statements_in b.inside);
        is_tree = m.2;
        stands = λ front h.
            subst (λ xs. StandsFor (erase f) [] b.inside (length (statements_in b.inside)) 0 xs []) (sym h) (file-end-stands bytes (erase f) s.reads.spells b m.1 items are);
      }

-- ---- the new text

pub lines-spell : LinesSpell
lines-spell place new limits bytes f s items are name writes t is level =
    let c = lines-come limits bytes f s items are place new t is in
    let b = c.block in
    let g = lines-law name bytes items are c.spot c.placed new.bytes in
    let text = joined g.front ++ (g.break ++ (new.bytes ++ joined g.back)) in
    let parts : IsBreak g.front g.break = breaks g.front g.break g.is_break in
    let fresh = subst LevelFile (sym c.is_tree) level in
    record {
      primitive = layout.Lines c.spot new.bytes;
      is_primitive = ap (option_map (λ s. layout.Lines s new.bytes)) c.is_spot;
      placed = c.placed;
      text = text;
      patches = g.patches;
      utf8 = coding-law name bytes items are s.reads.source.utf8 (layout.Lines c.spot new.bytes) writes.utf8 text g.patches;
      texts = texts-law name bytes items are s.reads.source.utf8 (layout.Lines c.spot new.bytes) writes.utf8;
      spells = subst (Spells text) c.is_tree
          (lines-spelled bytes (erase f) s.reads.spells c.path b c.is_block c.from 0 g.front [] g.back (subst (IsItemList bytes) g.parts are) (c.stands g.front g.is_front)
          g.break parts new.node new.bytes writes.text fresh);
    }
  where
    breaks : (front : List Lexeme) (break : List ℕ) → IsLineEnd break ⊎ ((break ≡ []) × (ends_line front ≡ true)) → IsBreak front break
    breaks front break (inl line) = inl line
    breaks front break (inr none) = inr (none.0, ends-its-line front none.1)

pub lines-keep : (place : LinePlace) (new : Written (List (Statement Nowhere))) (limits : Limits) (bytes : List ℕ) (f : File Span)
    → IsSpannedWithin limits bytes f → (items : List Lexeme) → IsItemList bytes items → (name : List ℕ)
    → (t : Plain) → edited (Lines place new) (erase f) ≡ Some t → (primitive : Primitive) → primitive_of f (Lines place new) ≡ Some primitive
    → (text : List ℕ) → patched_by bytes (layout_of name items primitive) ≡ Ok text → EditKeeps bytes text f items (Lines place new)
lines-keep place new limits bytes f s items are name t is primitive is_primitive text patches =
    let c = lines-come limits bytes f s items are place new t is in
    let g = lines-law name bytes items are c.spot c.placed new.bytes in
    let laid : primitive ≡ layout.Lines c.spot new.bytes = some-injective _ _ (sym is_primitive ∙ ap (option_map (λ s. layout.Lines s new.bytes)) c.is_spot) in
    record {
      front = joined g.front;
      back = joined g.back;
      break = g.break;
      old = sym are.joins ∙ ap joined g.parts ∙ joined-append g.front g.back;
      is_break = broken g.front g.break g.is_break;
      now = (let both = sym patches ∙ ap (λ q. patched_by bytes (layout_of name items q)) laid ∙ g.patches in cc);
    }
  where
    broken : (front : List Lexeme) (break : List ℕ) → IsLineEnd break ⊎ ((break ≡ []) × (ends_line front ≡ true)) → (break ≡ []) ⊎ IsLineEnd break
    broken front break (inl line) = inr line
    broken front break (inr none) = inl none.0
