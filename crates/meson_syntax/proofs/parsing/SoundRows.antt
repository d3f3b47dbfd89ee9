-- What is read as an expression is spelled so.
use Rattle.std.proofs.Common.{◌≡◌, ℕ, suc, zero, ◌+◌, ◌<◌, ◌≤◌, true, List, [], ◌∷◌, ◌++◌, Option, Some, inl, inr, refl, sym, ap, subst, ◌∙◌, append_assoc, arith}
use Rattle.std.proofs.Math.Dec.{eqb}
use Rattle.std.proofs.lemmas.Bool.{eqb-true}
use Rattle.std.proofs.lemmas.List.{append-nil}
use Rattle.meson_lex.specs.declared.kinds.Kind.{Kind}
use Rattle.meson_lex.specs.declared.kinds.Kind.TheVariants as k
use Rattle.meson_lex.specs.declared.kinds.Span.{Span}
use Rattle.meson_syntax.specs.declared.operator.Operator.{Operator}
use Rattle.meson_syntax.specs.declared.operator.Operator.TheVariants as op
use Rattle.meson_syntax.specs.declared.operator.UnaryOperator.{UnaryOperator}
use Rattle.meson_syntax.specs.declared.operator.UnaryOperator.TheVariants as unary_op
use Rattle.meson_syntax.specs.declared.operator.Bracket.{Bracket}
use Rattle.meson_syntax.specs.declared.operator.Bracket.TheVariants as bracket
use Rattle.meson_syntax.specs.Operators.{operator_kind, operator_rest, unary_kind, opens, level}
use Rattle.meson_syntax.specs.Tree.{Expression, Tail, tails_of, operands_of, Listing}
use Rattle.meson_syntax.specs.inside.Input.{same_kind, Input, kind, from, next, sees, sees_two, expect, span_from, left, name_next}
use Rattle.meson_syntax.specs.inside.Reading.{room, row_of, one_token, operator, operator_by, unary_of, with_tails, with_operands, listed, primary, method_call, indexed, tails_from, tails, postfixed, unary_by, unaried, operands_from, row_at, answered, choice, expression}
use Rattle.meson_syntax.specs.Grammar.{looseness}
use Rattle.meson_syntax.specs.Spelling.{One, Then, Each, Deeper, SpellsExpression, SpellsOperands, SpellsTail, SpellsTails, SpellsListing, SaysName}
use Rattle.meson_syntax.proofs.parsing.Steps.{Passes, part, passes-then, passes-nothing, nothing-same, and_then_some, chosen_at, some-injective, passes-at, node, sees-one, expect-one, two-both, kind-sees, sees-name}
use Rattle.meson_syntax.proofs.parsing.NonEmpty.{one-some, then-some, expression-some}
use Rattle.meson_syntax.proofs.parsing.Sound.{Within, sound-listed, sound-primary}

spells : (n : ℕ) (e : Expression Span) (d : ℕ) (i j : Input) → Passes (Within n e d) i j → Passes (SpellsExpression e d) i j
spells n e d i j r = part _ _ i j r r.fits.1

looser : (n m : ℕ) (e : Expression Span) (d : ℕ) (i j : Input) → n ≤ m → Passes (Within n e d) i j → Passes (Within m e d) i j
looser n m e d i j h r = let l = r.fits.0 in part _ _ i j r (omega arith, r.fits.1)

-- ---- operators

-- an operator of the level that its first token tells, and its tokens
record OperatorRead (κ : Option Kind) (i : Input) (q : Operator × Input) : Type 0 where
  at : Input
  level_is : level q.0 ≡ row_of κ
  first : Passes (One (operator_kind q.0)) i at
  others : Passes (Each (operator_rest q.0)) at q.1

sound-one_token : (o : Operator) (κ : Option Kind) (i : Input) (q : Operator × Input) → level o ≡ row_of κ → sees (operator_kind o) i ≡ true → Passes (Each (operator_rest o)) (next i) (next i)
    → one_token o i ≡ Some q → OperatorRead κ i q
sound-one_token o κ i q is first others h =
    subst (OperatorRead κ i) (some-injective _ q h) (record { at = next i; level_is = is; first = sees-one (operator_kind o) i first; others = others })

sound-operator_by : (i : Input) (κ : Option Kind) (q : Operator × Input) → kind i ≡ κ → operator_by κ i ≡ Some q → OperatorRead κ i q
unfolding same_kind
sound-operator_by i (Some k.Star) q e h = sound-one_token op.Times (Some k.Star) i q refl (kind-sees i k.Star k.Star e refl) (passes-nothing (next i)) h
sound-operator_by i (Some k.Slash) q e h = sound-one_token op.Divide (Some k.Slash) i q refl (kind-sees i k.Slash k.Slash e refl) (passes-nothing (next i)) h
sound-operator_by i (Some k.Percent) q e h = sound-one_token op.Remainder (Some k.Percent) i q refl (kind-sees i k.Percent k.Percent e refl) (passes-nothing (next i)) h
sound-operator_by i (Some k.Plus) q e h = sound-one_token op.Plus (Some k.Plus) i q refl (kind-sees i k.Plus k.Plus e refl) (passes-nothing (next i)) h
sound-operator_by i (Some k.Minus) q e h = sound-one_token op.Minus (Some k.Minus) i q refl (kind-sees i k.Minus k.Minus e refl) (passes-nothing (next i)) h
sound-operator_by i (Some k.Less) q e h = sound-one_token op.Less (Some k.Less) i q refl (kind-sees i k.Less k.Less e refl) (passes-nothing (next i)) h
sound-operator_by i (Some k.LessEqual) q e h = sound-one_token op.LessEqual (Some k.LessEqual) i q refl (kind-sees i k.LessEqual k.LessEqual e refl) (passes-nothing (next i)) h
sound-operator_by i (Some k.Greater) q e h = sound-one_token op.Greater (Some k.Greater) i q refl (kind-sees i k.Greater k.Greater e refl) (passes-nothing (next i)) h
sound-operator_by i (Some k.GreaterEqual) q e h = sound-one_token op.GreaterEqual (Some k.GreaterEqual) i q refl (kind-sees i k.GreaterEqual k.GreaterEqual e refl) (passes-nothing (next i)) h
sound-operator_by i (Some k.WordIn) q e h = sound-one_token op.In (Some k.WordIn) i q refl (kind-sees i k.WordIn k.WordIn e refl) (passes-nothing (next i)) h
sound-operator_by i (Some k.WordNot) q e h =
    let a = and_then_some (expect k.WordIn (next i)) _ _ h in
    subst (OperatorRead (Some k.WordNot) i) (some-injective _ q a.2) (record {
      at = next i;
      level_is = refl;
      first = sees-one k.WordNot i (kind-sees i k.WordNot k.WordNot e refl);
      others = passes-then (One k.WordIn) (Each []) (next i) a.0.1 a.0.1 (expect-one k.WordIn (next i) a.0 a.1) (passes-nothing a.0.1);
    })
sound-operator_by i (Some k.Equal) q e h = sound-one_token op.Equal (Some k.Equal) i q refl (kind-sees i k.Equal k.Equal e refl) (passes-nothing (next i)) h
sound-operator_by i (Some k.NotEqual) q e h = sound-one_token op.NotEqual (Some k.NotEqual) i q refl (kind-sees i k.NotEqual k.NotEqual e refl) (passes-nothing (next i)) h
sound-operator_by i (Some k.WordAnd) q e h = sound-one_token op.And (Some k.WordAnd) i q refl (kind-sees i k.WordAnd k.WordAnd e refl) (passes-nothing (next i)) h
sound-operator_by i (Some k.WordOr) q e h = sound-one_token op.Or (Some k.WordOr) i q refl (kind-sees i k.WordOr k.WordOr e refl) (passes-nothing (next i)) h
sound-operator_by i _ q e h = absurd cc

sound-operator : (i : Input) (q : Operator × Input) → operator i ≡ Some q → OperatorRead (kind i) i q
unfolding operator
sound-operator i q h = sound-operator_by i (kind i) q refl h

-- ---- the rules, where expressions one level deeper are read as they are spelled

module _ (d : ℕ) (deep : (i : Input) (q : Expression Span × Input) → expression d i ≡ Some q → Passes (Deeper (SpellsExpression q.0) d) i q.1) where
  -- ---- method calls and indexes

  sound-method_call : (i : Input) (q : Tail Span × Input) → sees k.Dot i ≡ true → method_call (room d) (expression d) i ≡ Some q → Passes (SpellsTail q.0 d) i q.1
  unfolding method_call
  sound-method_call i q dotted h = elim (chosen_at (sees_two k.Identifier k.OpenRound (next i)) _ _ (next i) _ h) [
    | inl w ↦
        (let both = two-both k.Identifier k.OpenRound (next i) w.0 in
        let x = name_next (next i) in
        let at = next (next i) in
        let a = and_then_some (listed (room d) (expression d) bracket.Round at) _ _ w.1 in
        let P = SpellsListing a.0.0 bracket.Round d in
        let r = passes-then (One k.Dot) (Then (SaysName x) P) i (next i) a.0.1 (sees-one k.Dot i dotted)
        (passes-then (SaysName x) P (next i) at a.0.1 (sees-name (next i) both.0) (sound-listed d deep bracket.Round at a.0 both.1 a.1)) in
        let n = node _ i a.0.1 (then-some _ _ (one-some k.Dot)) r in
        passes-at (λ t. SpellsTail t d) i _ q a.2 n)
    | inr w ↦ absurd cc
  ]

  sound-indexed : (i : Input) (q : Tail Span × Input) → sees k.OpenSquare i ≡ true → indexed (room d) (expression d) i ≡ Some q → Passes (SpellsTail q.0 d) i q.1
  unfolding indexed
  sound-indexed i q begins h = elim (chosen_at (room d) _ _ i _ h) [
    | inl w ↦
        (let a = and_then_some (expression d (next i)) _ _ w.1 in
        let c = and_then_some (expect k.CloseSquare a.0.1) _ _ a.2 in
        let P = Deeper (SpellsExpression a.0.0) d in
        let r = passes-then (One k.OpenSquare) (Then P (One k.CloseSquare)) i (next i) c.0.1 (sees-one k.OpenSquare i begins)
        (passes-then P (One k.CloseSquare) (next i) a.0.1 c.0.1 (deep (next i) a.0 a.1) (expect-one k.CloseSquare a.0.1 c.0 c.1)) in
        let n = node _ i c.0.1 (then-some _ _ (one-some k.OpenSquare)) r in
        passes-at (λ t. SpellsTail t d) i _ q c.2 n)
    | inr w ↦ absurd cc
  ]

  record TailsRead (found : List (Tail Span)) (i : Input) (q : List (Tail Span) × Input) : Type 0 where
    more : List (Tail Span)
    are : q.0 ≡ found ++ more
    spelled : Passes (SpellsTails (tails_of more) d) i q.1

  no-tails : (found : List (Tail Span)) (i : Input) (q : List (Tail Span) × Input) → Some (found, i) ≡ Some q → TailsRead found i q
  no-tails found i q h = subst (TailsRead found i) (some-injective _ q h) (record { more = []; are = sym (append-nil found); spelled = passes-nothing i })

  one-tail : (found : List (Tail Span)) (i m : Input) (q : List (Tail Span) × Input) (t : Tail Span) → Passes (SpellsTail t d) i m → TailsRead (found ++ t ∷ []) m q → TailsRead found i q
  one-tail found i m q t first rest = record {
    more = t ∷ rest.more;
    are = rest.are ∙ append_assoc found (t ∷ []) rest.more;
    spelled = passes-then (SpellsTail t d) (SpellsTails (tails_of rest.more) d) i m q.1 first rest.spelled;
  }

  sound-tails_from : (n : ℕ) (found : List (Tail Span)) (i : Input) (q : List (Tail Span) × Input) → tails_from (room d) (expression d) n found i ≡ Some q → TailsRead found i q
  unfolding tails_from
  sound-tails_from zero found i q h = no-tails found i q h
  sound-tails_from (suc n) found i q h = elim (chosen_at (sees k.Dot i) _ _ i _ h) [
    | inl w ↦
        (let a = and_then_some (method_call (room d) (expression d) i) _ _ w.1 in
        one-tail found i a.0.1 q a.0.0 (sound-method_call i a.0 w.0 a.1) (sound-tails_from n (found ++ a.0.0 ∷ []) a.0.1 q a.2))
    | inr w ↦ elim (chosen_at (sees k.OpenSquare i) _ _ i _ w.1) [
      | inl v ↦
          (let a = and_then_some (indexed (room d) (expression d) i) _ _ v.1 in
          one-tail found i a.0.1 q a.0.0 (sound-indexed i a.0 v.0 a.1) (sound-tails_from n (found ++ a.0.0 ∷ []) a.0.1 q a.2))
      | inr v ↦ no-tails found i q v.1
    ]
  ]

  sound-with_tails : (ts : List (Tail Span)) (e : Expression Span) (i m j : Input) → Passes (Within 0 e d) i m → Passes (SpellsTails (tails_of ts) d) m j
      → Passes (Within 1 (with_tails (span_from (from i) j) e ts) d) i j
  unfolding with_tails
  sound-with_tails [] e i m j base rest = subst (λ x. Passes (Within 1 e d) i x) (nothing-same m j rest) (looser 0 1 e d i m (omega arith) base)
  sound-with_tails (t ∷ ts) e i m j base rest =
      let r = passes-then (SpellsExpression e d) (SpellsTails (tails_of (t ∷ ts)) d) i m j (spells 0 e d i m base) rest in
      let n = node _ i j (then-some _ _ (expression-some e d)) r in
      part _ _ i j n (omega arith, (n.fits.0, tt, base.fits.0, n.fits.1))

  sound-postfixed : (i : Input) (q : Expression Span × Input) → postfixed (room d) (expression d) i ≡ Some q → Passes (Within 1 q.0 d) i q.1
  unfolding postfixed tails
  sound-postfixed i q h =
      let a = and_then_some (primary (room d) (expression d) i) _ _ h in
      let m = a.0.1 in
      let b = and_then_some (tails_from (room d) (expression d) (left m) [] m) _ _ a.2 in
      let j = b.0.1 in
      let read = sound-tails_from (left m) [] m b.0 b.1 in
      let made = sound-with_tails read.more a.0.0 i m j (sound-primary d deep i a.0 a.1) read.spelled in
      passes-at (λ e. Within 1 e d) i _ q (ap (λ ts. Some (with_tails (span_from (from i) j) a.0.0 ts, j)) (sym read.are) ∙ b.2) made

  -- ---- rows

  sound-unary_by : (o : UnaryOperator) (i : Input) (q : Expression Span × Input) → sees (unary_kind o) i ≡ true → unary_by (room d) (expression d) (Some o) i ≡ Some q → Passes (Within 2 q.0 d) i q.1
  sound-unary_by o i q is h =
      let a = and_then_some (postfixed (room d) (expression d) (next i)) _ _ h in
      let inside = sound-postfixed (next i) a.0 a.1 in
      let r = passes-then (One (unary_kind o)) (SpellsExpression a.0.0 d) i (next i) a.0.1 (sees-one (unary_kind o) i is) (spells 1 a.0.0 d (next i) a.0.1 inside) in
      let n = node _ i a.0.1 (then-some _ _ (one-some (unary_kind o))) r in
      passes-at (λ e. Within 2 e d) i _ q a.2 (part _ _ i a.0.1 n (omega arith, (n.fits.0, inside.fits.0, n.fits.1)))

  sound-unary_of : (i : Input) (κ : Option Kind) (q : Expression Span × Input) → kind i ≡ κ → unary_by (room d) (expression d) (unary_of κ) i ≡ Some q → Passes (Within 2 q.0 d) i q.1
  unfolding same_kind
  sound-unary_of i (Some k.WordNot) q e h = sound-unary_by unary_op.Not i q (kind-sees i k.WordNot k.WordNot e refl) h
  sound-unary_of i (Some k.Minus) q e h = sound-unary_by unary_op.Minus i q (kind-sees i k.Minus k.Minus e refl) h
  sound-unary_of i _ q e h = looser 1 2 q.0 d i q.1 (omega arith) (sound-postfixed i q h)

  sound-unaried : (i : Input) (q : Expression Span × Input) → unaried (room d) (expression d) i ≡ Some q → Passes (Within 2 q.0 d) i q.1
  unfolding unaried
  sound-unaried i q h = sound-unary_of i (kind i) q refl h

  record OperandsRead (n : ℕ) (found : List (Operator × Expression Span)) (i : Input) (q : List (Operator × Expression Span) × Input) : Type 0 where
    more : List (Operator × Expression Span)
    are : q.0 ≡ found ++ more
    spelled : Passes (SpellsOperands (operands_of more) n d) i q.1

  no-operands : (n : ℕ) (found : List (Operator × Expression Span)) (i : Input) (q : List (Operator × Expression Span) × Input) → Some (found, i) ≡ Some q → OperandsRead n found i q
  no-operands n found i q h = subst (OperandsRead n found i) (some-injective _ q h) (record { more = []; are = sym (append-nil found); spelled = passes-nothing i })

  sound-operands_from : (n : ℕ) (tighter : (i : Input) (q : Expression Span × Input) → row_at (room d) (expression d) n i ≡ Some q → Passes (Within (2 + n) q.0 d) i q.1)
      (turns : ℕ) (found : List (Operator × Expression Span)) (i : Input) (q : List (Operator × Expression Span) × Input)
      → operands_from (room d) (expression d) (suc n) (row_at (room d) (expression d) n) turns found i ≡ Some q → OperandsRead (suc n) found i q
  unfolding operands_from
  sound-operands_from n tighter zero found i q h = no-operands (suc n) found i q h
  sound-operands_from n tighter (suc turns) found i q h = elim (chosen_at (eqb (row_of (kind i)) (suc n)) _ _ i _ h) [
    | inl w ↦
        (let o = and_then_some (operator i) _ _ w.1 in
        let e = and_then_some (row_at (room d) (expression d) n o.0.1) _ _ o.2 in
        let sign = sound-operator i o.0 o.1 in
        let first = tighter o.0.1 e.0 e.1 in
        let rest = sound-operands_from n tighter turns (found ++ (o.0.0, e.0.0) ∷ []) e.0.1 q e.2 in
        let P = SpellsExpression e.0.0 d in
        let Q = SpellsOperands (operands_of rest.more) (suc n) d in
        let r = passes-then (One (operator_kind o.0.0)) (Then (Each (operator_rest o.0.0)) (Then P Q)) i sign.at q.1 sign.first
        (passes-then (Each (operator_rest o.0.0)) (Then P Q) sign.at o.0.1 q.1 sign.others
        (passes-then P Q o.0.1 e.0.1 q.1 (spells (2 + n) e.0.0 d o.0.1 e.0.1 first) rest.spelled)) in
        let small = first.fits.0 in
        let less : looseness e.0.0 < 2 + suc n = omega arith in
        record {
          more = (o.0.0, e.0.0) ∷ rest.more;
          are = rest.are ∙ append_assoc found ((o.0.0, e.0.0) ∷ []) rest.more;
          spelled = part _ _ i q.1 r (sign.level_is ∙ eqb-true (row_of (kind i)) (suc n) w.0, less, r.fits);
        })
    | inr w ↦ no-operands (suc n) found i q w.1
  ]

  sound-with_operands : (n : ℕ) (os : List (Operator × Expression Span)) (e : Expression Span) (i m j : Input) → Passes (Within (2 + n) e d) i m → Passes (SpellsOperands (operands_of os) (suc n) d) m j
      → Passes (Within (2 + suc n) (with_operands (span_from (from i) j) e os) d) i j
  unfolding with_operands
  sound-with_operands n [] e i m j base rest = subst (λ x. Passes (Within (2 + suc n) e d) i x) (nothing-same m j rest) (looser (2 + n) (2 + suc n) e d i m (omega arith) base)
  sound-with_operands n (o ∷ os) e i m j base rest =
      let is : level o.0 ≡ suc n = rest.fits.0 in
      let P = SpellsOperands (operands_of (o ∷ os)) (level o.0) d in
      let others : Passes P m j = subst (λ n. Passes (SpellsOperands (operands_of (o ∷ os)) n d) m j) (sym is) rest in
      let r = passes-then (SpellsExpression e d) P i m j (spells (2 + n) e d i m base) others in
      let t = node _ i j (then-some _ _ (expression-some e d)) r in
      let small = base.fits.0 in
      let less : looseness e < 2 + level o.0 = omega arith in
      part _ _ i j t (omega arith, (t.fits.0, tt, less, t.fits.1))

  sound-row_at : (n : ℕ) (i : Input) (q : Expression Span × Input) → row_at (room d) (expression d) n i ≡ Some q → Passes (Within (2 + n) q.0 d) i q.1
  unfolding row_at
  sound-row_at zero i q h = looser 2 (2 + 0) q.0 d i q.1 (omega arith) (sound-unaried i q h)
  sound-row_at (suc n) i q h =
      let tighter = sound-row_at n in
      let a = and_then_some (row_at (room d) (expression d) n i) _ _ h in
      let m = a.0.1 in
      let b = and_then_some (operands_from (room d) (expression d) (suc n) (row_at (room d) (expression d) n) (left m) [] m) _ _ a.2 in
      let j = b.0.1 in
      let read = sound-operands_from n tighter (left m) [] m b.0 b.1 in
      let made = sound-with_operands n read.more a.0.0 i m j (tighter i a.0 a.1) read.spelled in
      passes-at (λ e. Within (2 + suc n) e d) i _ q (ap (λ os. Some (with_operands (span_from (from i) j) a.0.0 os, j)) (sym read.are) ∙ b.2) made

  -- ---- conditionals

  sound-answered : (i m : Input) (e : Expression Span) (q : Expression Span × Input) → Passes (Within 8 e d) i m → sees k.Question m ≡ true
      → answered (room d) (expression d) (from i) e m ≡ Some q → Passes (SpellsExpression q.0 d) i q.1
  unfolding answered
  sound-answered i m e q condition asked h = elim (chosen_at (room d) _ _ m _ h) [
    | inl w ↦
        (let a = and_then_some (expression d (next m)) _ _ w.1 in
        let c = and_then_some (expect k.Colon a.0.1) _ _ a.2 in
        let b = and_then_some (expression d c.0.1) _ _ c.2 in
        let j = b.0.1 in
        let P = Deeper (SpellsExpression a.0.0) d in
        let Q = Deeper (SpellsExpression b.0.0) d in
        let r = passes-then (SpellsExpression e d) (Then (One k.Question) (Then P (Then (One k.Colon) Q))) i m j (spells 8 e d i m condition)
        (passes-then (One k.Question) (Then P (Then (One k.Colon) Q)) m (next m) j (sees-one k.Question m asked)
        (passes-then P (Then (One k.Colon) Q) (next m) a.0.1 j (deep (next m) a.0 a.1)
        (passes-then (One k.Colon) Q a.0.1 c.0.1 j (expect-one k.Colon a.0.1 c.0 c.1) (deep c.0.1 b.0 b.1)))) in
        let n = node _ i j (then-some _ _ (expression-some e d)) r in
        passes-at (λ x. SpellsExpression x d) i _ q b.2 (part _ _ i j n (n.fits.0, condition.fits.0, n.fits.1)))
    | inr w ↦ absurd cc
  ]

  sound-chosen : (i : Input) (q : Expression Span × Input) → choice (room d) (expression d) i ≡ Some q → Passes (SpellsExpression q.0 d) i q.1
  unfolding choice
  sound-chosen i q h =
      let a = and_then_some (row_at (room d) (expression d) 6 i) _ _ h in
      let m = a.0.1 in
      let condition = sound-row_at 6 i a.0 a.1 in
      elim (chosen_at (sees k.Question m) _ _ m _ a.2) [
        | inl w ↦ sound-answered i m a.0.0 q condition w.0 w.1
        | inr w ↦ passes-at (λ e. SpellsExpression e d) i _ q w.1 (spells 8 a.0.0 d i m condition)
      ]

pub sound-expression : (d : ℕ) (i : Input) (q : Expression Span × Input) → expression d i ≡ Some q → Passes (Deeper (SpellsExpression q.0) d) i q.1
unfolding expression
sound-expression zero i q h = absurd cc
sound-expression (suc d) i q h =
    let r = sound-chosen d (sound-expression d) i q h in
    part _ _ i q.1 r (record { inner = d; less = refl; spelled = r.fits })

-- a list by itself, where so many constructs may stand inside one another
pub listed-sound : (d : ℕ) (b : Bracket) (i : Input) (q : Listing Span × Input) → sees (opens b) i ≡ true → listed (room d) (expression d) b i ≡ Some q → Passes (SpellsListing q.0 b d) i q.1
listed-sound d b i q begins h = sound-listed d (sound-expression d) b i q begins h
