-- What stands alone is what its rule reads.
use Rattle.std.proofs.Common.{◌≡◌, ℕ, zero, suc, Bool, true, false, if◌then◌else◌, List, [], ◌∷◌, Some, None, refl, sym, ap, ◌∙◌}
use Rattle.meson_lex.specs.declared.kinds.Kind.{Kind}
use Rattle.meson_lex.specs.declared.kinds.Kind.TheVariants as k
use Rattle.meson_lex.specs.declared.kinds.Span.{Span}
use Rattle.meson_lex.specs.Located.{Token}
use Rattle.meson_syntax.specs.declared.operator.StringKind.TheVariants as quotes
use Rattle.meson_syntax.specs.inside.Input.{Input, Parser, and_then, from, kind, left, name_next, next, sees, span_from, text_ahead}
use Rattle.meson_syntax.specs.inside.Reading.{answered, choice, identified, number, postfixed, primary, quoted, row_at, row_of, tails, tails_from, truth, unaried, unary_by, unary_of, with_tails}
use Rattle.meson_syntax.specs.inside.Rows.{row_with}
use Rattle.meson_syntax.specs.inside.Alone.{begins_alone, ends_expression, is_alone, is_single, tailed}
use Rattle.meson_syntax.specs.Tree.{Expression, boolean, identifier, integer, string}
use Rattle.meson_syntax.proofs.Rows.{row_at-with, row_with-none}
use Rattle.meson_syntax.proofs.parsing.Splits.{bind-is, not-sees}

-- ---- what follows an expression that nothing goes on with

record Quiet (i : Input) : Type 0 where
  row : row_of (kind i) ≡ 0
  dot : sees k.Dot i ≡ false
  square : sees k.OpenSquare i ≡ false
  round : sees k.OpenRound i ≡ false
  question : sees k.Question i ≡ false

row-none : (κ : Kind) → ends_expression κ ≡ true → row_of (Some κ) ≡ 0
row-none k.LineEnd ends = refl
row-none k.CloseRound ends = refl
row-none k.CloseSquare ends = refl
row-none k.CloseCurly ends = refl
row-none k.Comma ends = refl
row-none k.Colon ends = refl
row-none _ ends = absurd (let bad : ⊥ = cc in bad)

differs : (κ ι : Kind) → ends_expression κ ≡ true → ends_expression ι ≡ false → Some κ ≡ Some ι → ⊥
differs κ ι ends goes_on same =
    let is : κ ≡ ι = cc in
    let apart : true ≡ false = sym ends ∙ ap ends_expression is ∙ goes_on in
    cc

quiet : (last : ℕ) (t : Token) (ts : List Token) → ends_expression t.kind ≡ true → Quiet (record { last = last; rest = t ∷ ts })
unfolding kind
quiet last t ts ends =
    let i : Input = record { last = last; rest = t ∷ ts } in
    let not : (ι : Kind) → ends_expression ι ≡ false → sees ι i ≡ false = λ ι goes_on. not-sees ι i (differs t.kind ι ends goes_on) in
    record { row = row-none t.kind ends; dot = not k.Dot refl; square = not k.OpenSquare refl; round = not k.OpenRound refl; question = not k.Question refl }

both : (a b : Bool) → (if a then b else false) ≡ true → (a ≡ true) × (b ≡ true)
both true b h = (refl, h)
both false b h = absurd (let bad : ⊥ = cc in bad)

module _ (room : Bool) (inner : Parser (Expression Span)) where
  tails_from-none : (turns : ℕ) (i : Input) → sees k.Dot i ≡ false → sees k.OpenSquare i ≡ false → tails_from room inner turns [] i ≡ Some ([], i)
  unfolding tails_from
  tails_from-none zero i dot square = refl
  tails_from-none (suc n) i dot square = simp (dot, square)

  pub tailed-none : (start : ℕ) (e : Expression Span) (i : Input) → sees k.Dot i ≡ false → sees k.OpenSquare i ≡ false → tailed room inner start e i ≡ Some (e, i)
  unfolding tailed tails with_tails
  tailed-none start e i dot square = ap (λ o. and_then o (λ ts j. Some (with_tails (span_from start j) e ts, j))) (tails_from-none (left i) i dot square)

  -- a token that is an expression, where no bracket follows
  primary-single : (κ : Kind) (i : Input) → is_single κ ≡ true → kind i ≡ Some κ → sees k.OpenRound (next i) ≡ false → (e : Expression Span) × (primary room inner i ≡ Some (e, next i))
  unfolding primary identified truth number quoted name_next
  primary-single k.Identifier i single is closed = (identifier (span_from (from i) (next i)) (text_ahead i), simp (is, closed))
  primary-single k.WordTrue i single is closed = (boolean (span_from (from i) (next i)) true, simp is)
  primary-single k.WordFalse i single is closed = (boolean (span_from (from i) (next i)) false, simp is)
  primary-single k.Integer i single is closed = (integer (span_from (from i) (next i)) (text_ahead i), simp is)
  primary-single k.PlainString i single is closed = (string (span_from (from i) (next i)) quotes.Plain (text_ahead i), simp is)
  primary-single _ i single is closed = absurd (let bad : ⊥ = cc in bad)

  unary-single : (κ : Kind) → is_single κ ≡ true → unary_of (Some κ) ≡ None
  unary-single k.Identifier single = refl
  unary-single k.WordTrue single = refl
  unary-single k.WordFalse single = refl
  unary-single k.Integer single = refl
  unary-single k.PlainString single = refl
  unary-single _ single = absurd (let bad : ⊥ = cc in bad)

  chosen-quiet : (i j : Input) (e : Expression Span) → unary_of (kind i) ≡ None → primary room inner i ≡ Some (e, j) → Quiet j → choice room inner i ≡ Some (e, j)
  unfolding postfixed unaried choice tailed
  chosen-quiet i j e none is stops =
      let p : postfixed room inner i ≡ Some (e, j) = bind-is (primary room inner i) (tailed room inner (from i)) (e, j) (Some (e, j)) is (tailed-none (from i) e j stops.dot stops.square) in
      let u : unaried room inner i ≡ Some (e, j) = ap (λ o. unary_by room inner o i) none ∙ p in
      let r : row_at room inner 6 i ≡ Some (e, j) =
      row_at-with room inner 6 i ∙ bind-is (unaried room inner i) (λ x. row_with room inner 6 (from i) x) (e, j) (Some (e, j)) u (row_with-none room inner 6 (from i) e j stops.row) in
      bind-is (row_at room inner 6 i) (λ x l. (if sees k.Question l then answered room inner (from i) x else (λ m. Some (x, m))) l) (e, j) (Some (e, j)) r (simp stops.question)

  alone-at : (last : ℕ) (ts : List Token) → begins_alone ts ≡ true → choice room inner (record { last = last; rest = ts }) ≡ primary room inner (record { last = last; rest = ts })
  unfolding next kind
  alone-at last [] alone = absurd (let bad : ⊥ = cc in bad)
  alone-at last (t ∷ []) alone = let h = both (is_single t.kind) false alone in absurd (let bad : ⊥ = cc in bad)
  alone-at last (t ∷ u ∷ us) alone =
      let h = both (is_single t.kind) (ends_expression u.kind) alone in
      let i : Input = record { last = last; rest = t ∷ u ∷ us } in
      let stops = quiet t.to u us h.1 in
      let e = primary-single t.kind i h.0 refl stops.round in
      chosen-quiet i (next i) e.0 (unary-single t.kind h.0) e.1 stops ∙ sym e.1

  -- an expression of one token is what its first token tells
  pub chosen-alone : (i : Input) → is_alone i ≡ true → choice room inner i ≡ primary room inner i
  unfolding is_alone
  chosen-alone i alone = alone-at i.last i.rest alone
