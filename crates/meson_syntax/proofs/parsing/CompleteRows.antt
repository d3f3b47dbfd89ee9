-- What is spelled as an expression is read so.
use Rattle.std.proofs.Common.{◌≡◌, ℕ, suc, zero, ◌+◌, ◌<◌, ◌≤◌, ◌==◌, false, List, [], ◌∷◌, ◌++◌, Option, Some, inl, inr, refl, sym, ap, ap₂, subst, ◌∙◌, length, append_assoc, length-append, arith}
use Rattle.std.proofs.lemmas.List.{append-nil}
use Rattle.std.proofs.lemmas.Bool.{eq-eqb}
use Rattle.std.proofs.lemmas.Bool.Decides.{eqb_tells}
use Rattle.meson_lex.specs.declared.kinds.Kind.{Kind}
use Rattle.meson_lex.specs.declared.kinds.Kind.TheVariants as k
use Rattle.meson_lex.specs.declared.kinds.Span.{Span}
use Rattle.meson_lex.specs.Located.{Token}
use Rattle.meson_syntax.specs.declared.operator.Operator.{Operator}
use Rattle.meson_syntax.specs.declared.operator.Operator.TheVariants as op
use Rattle.meson_syntax.specs.declared.operator.UnaryOperator.{UnaryOperator}
use Rattle.meson_syntax.specs.declared.operator.Bracket.{Bracket}
use Rattle.meson_syntax.specs.Operators.{operator_kind, operator_rest, unary_kind}
use Rattle.meson_syntax.specs.Tree.{Expression, unary, row, postfix, conditional, Operands, no_operands, operand, operands_of, operand_list, Tail, method, index, Tails, no_tails, tail, tails_of, tail_list, Listing}
use Rattle.meson_syntax.specs.Grammar.{looseness, row_level, HasOperand, HasTail}
use Rattle.meson_syntax.specs.inside.Input.{Input, kind, from, next, sees, expect, span_from, left}
use Rattle.meson_syntax.specs.inside.Reading.{room, row_of, operator_by, operator, with_tails, with_operands, listed, primary, method_call, indexed, tails_from, tails, postfixed, unaried, operands_from, row_at, answered, choice, expression}
use Rattle.meson_syntax.specs.Spelling.{One, Then, Deeper, Nothing, Each, SpellsExpression, SpellsOperands, SpellsTail, SpellsTails, SpellsListing}
use Rattle.meson_syntax.proofs.parsing.Steps.{Passes, part, passes-nothing, nothing-same}
use Rattle.meson_syntax.proofs.parsing.Splits.{bind-is, yes-at, no-at, passes-split, one-read, yes-sees, not-sees, expect-is, covered, falls}
use Rattle.meson_syntax.proofs.parsing.NonEmpty.{one-some, expression-some, tail-some}
use Rattle.meson_syntax.proofs.parsing.Firsts.{binding, Stops, stops-at, binding-row, first-one, first-tails, begins-expression, unary-none, unary-some, row-some, row-most, first-operands, operand-stop}
use Rattle.meson_syntax.proofs.parsing.Complete.{room-is, listed-is, complete-primary, complete-method, complete-indexed}

-- ---- trees as lists, and back

pub list-of-tails : {S : Type 0} (ts : Tails S) → tails_of (tail_list ts) ≡ ts
list-of-tails no_tails = refl
list-of-tails (tail t more) = ap (tail t) (list-of-tails more)

with-tails-is : (at : Span) (e : Expression Span) (ts : Tails Span) → HasTail ts → with_tails at e (tail_list ts) ≡ postfix at e ts
unfolding with_tails
with-tails-is at e no_tails some = absurd some
with-tails-is at e (tail t more) some = ap (λ l. postfix at e (tail t l)) (list-of-tails more)

pub list-of-operands : {S : Type 0} (os : Operands S) → operands_of (operand_list os) ≡ os
list-of-operands no_operands = refl
list-of-operands (operand o e more) = ap (operand o e) (list-of-operands more)

with-operands-is : (at : Span) (e : Expression Span) (os : Operands Span) → HasOperand os → with_operands at e (operand_list os) ≡ row at e os
unfolding with_operands
with-operands-is at e no_operands some = absurd some
with-operands-is at e (operand o f more) some = ap (λ l. row at e (operand o f l)) (list-of-operands more)

-- ---- operators

one-token-is : (o : Operator) (i m j : Input) → ((x : Input) → operator_by (Some (operator_kind o)) x ≡ Some (o, next x)) → Passes (One (operator_kind o)) i m → Passes Nothing m j
    → operator i ≡ Some (o, j)
unfolding operator
one-token-is o i m j by r none =
    let w = one-read (operator_kind o) i m r in
    rw w.is (by i ∙ ap (λ x. Some (o, x)) (w.goes ∙ nothing-same m j none))

two-tokens-are : (i m j : Input) → Passes (One k.WordNot) i m → Passes (Each (k.WordIn ∷ [])) m j → operator i ≡ Some (op.NotIn, j)
unfolding operator
two-tokens-are i m j r more =
    let w = one-read k.WordNot i m r in
    let p = passes-split (One k.WordIn) Nothing m j more in
    rw w.is (rw w.goes (bind-is (expect k.WordIn m) _ (tt, p.at) _ (expect-is k.WordIn m p.at p.first) (ap (λ x. Some (op.NotIn, x)) (nothing-same p.at j p.second))))

complete-operator : (o : Operator) (i m j : Input) → Passes (One (operator_kind o)) i m → Passes (Each (operator_rest o)) m j → operator i ≡ Some (o, j)
complete-operator op.NotIn i m j r more = two-tokens-are i m j r more
complete-operator op.Or i m j r more = one-token-is op.Or i m j (λ x. refl) r more
complete-operator op.And i m j r more = one-token-is op.And i m j (λ x. refl) r more
complete-operator op.Equal i m j r more = one-token-is op.Equal i m j (λ x. refl) r more
complete-operator op.NotEqual i m j r more = one-token-is op.NotEqual i m j (λ x. refl) r more
complete-operator op.Less i m j r more = one-token-is op.Less i m j (λ x. refl) r more
complete-operator op.LessEqual i m j r more = one-token-is op.LessEqual i m j (λ x. refl) r more
complete-operator op.Greater i m j r more = one-token-is op.Greater i m j (λ x. refl) r more
complete-operator op.GreaterEqual i m j r more = one-token-is op.GreaterEqual i m j (λ x. refl) r more
complete-operator op.In i m j r more = one-token-is op.In i m j (λ x. refl) r more
complete-operator op.Plus i m j r more = one-token-is op.Plus i m j (λ x. refl) r more
complete-operator op.Minus i m j r more = one-token-is op.Minus i m j (λ x. refl) r more
complete-operator op.Times i m j r more = one-token-is op.Times i m j (λ x. refl) r more
complete-operator op.Divide i m j r more = one-token-is op.Divide i m j (λ x. refl) r more
complete-operator op.Remainder i m j r more = one-token-is op.Remainder i m j (λ x. refl) r more

-- no operator of this level
no-row : (κ : Option Kind) (l : ℕ) → 2 + suc l < binding κ → (row_of κ == suc l) ≡ false
no-row κ l h = elim (eqb_tells (row_of κ) (suc l)) [ inl w ↦ (let b = binding-row κ l w.1 in absurd (omega arith)) | inr w ↦ w.0 ]

-- what takes tokens leaves no more
pub passes-left : (P : List Token → Type 0) (i j : Input) → Passes P i j → left j ≤ left i
unfolding left
passes-left P i j r = let e = ap length r.took.rest ∙ length-append r.used j.rest in omega arith

module _ (d : ℕ) (deep : (e : Expression Span) (i j : Input) → Passes (Deeper (SpellsExpression e) d) i j → Stops (kind j) → expression d i ≡ Some (e, j)) where
  -- ---- tails

  complete-tails_from : (ts : Tails Span) (n : ℕ) (found : List (Tail Span)) (i j : Input) → left i ≤ n → Passes (SpellsTails ts d) i j → 1 < binding (kind j)
      → tails_from (room d) (expression d) n found i ≡ Some (found ++ tail_list ts, j)
  unfolding tails_from
  complete-tails_from no_tails zero found i j fuel r stop = ap₂ (λ f x. Some (f, x)) (sym (append-nil found)) (nothing-same i j r)
  complete-tails_from no_tails (suc n) found i j fuel r stop =
      rw (nothing-same i j r) (no-at (sees k.Dot j) _ _ j _ (not-sees k.Dot j (stops-at 1 j k.Dot stop (omega arith)))
      (no-at (sees k.OpenSquare j) _ _ j _ (not-sees k.OpenSquare j (stops-at 1 j k.OpenSquare stop (omega arith)))
      (ap (λ f. Some (f, j)) (sym (append-nil found)))))
  complete-tails_from (tail t more) zero found i j fuel r stop =
      let p = passes-split (SpellsTail t d) _ i j r in
      let less = falls (SpellsTail t d) i p.at (tail-some t d) p.first in
      absurd (omega arith)
  complete-tails_from (tail (method s x l) more) (suc n) found i j fuel r stop =
      let t = method s x l in
      let p = passes-split (SpellsTail t d) (SpellsTails more d) i j r in
      let less = falls (SpellsTail t d) i p.at (tail-some t d) p.first in
      let rest = complete-tails_from more n (found ++ t ∷ []) p.at j (omega arith) p.second stop in
      let begins : kind i ≡ Some k.Dot = first-one k.Dot _ i p.at (part _ _ i p.at p.first p.first.fits.1) in
      yes-at (sees k.Dot i) _ _ i _ (yes-sees k.Dot i begins)
      (bind-is (method_call (room d) (expression d) i) _ (t, p.at) _ (complete-method d deep s x l i p.at p.first)
      (rest ∙ ap (λ f. Some (f, j)) (append_assoc found (t ∷ []) (tail_list more))))
  complete-tails_from (tail (index s e) more) (suc n) found i j fuel r stop =
      let t = index s e in
      let p = passes-split (SpellsTail t d) (SpellsTails more d) i j r in
      let less = falls (SpellsTail t d) i p.at (tail-some t d) p.first in
      let rest = complete-tails_from more n (found ++ t ∷ []) p.at j (omega arith) p.second stop in
      let begins : kind i ≡ Some k.OpenSquare = first-one k.OpenSquare _ i p.at (part _ _ i p.at p.first p.first.fits.1) in
      no-at (sees k.Dot i) _ _ i _ (not-sees k.Dot i (λ c. let both : Some k.Dot ≡ Some k.OpenSquare = sym c ∙ begins in absurd cc))
      (yes-at (sees k.OpenSquare i) _ _ i _ (yes-sees k.OpenSquare i begins)
      (bind-is (indexed (room d) (expression d) i) _ (t, p.at) _ (complete-indexed d deep s e i p.at p.first)
      (rest ∙ ap (λ f. Some (f, j)) (append_assoc found (t ∷ []) (tail_list more)))))

  -- one thing without a tail
  tailless-is : (e : Expression Span) (i j : Input) → looseness e ≤ 0 → Passes (SpellsExpression e d) i j → 1 < binding (kind j) → postfixed (room d) (expression d) i ≡ Some (e, j)
  unfolding postfixed tails with_tails
  tailless-is e i j h r stop =
      bind-is (primary (room d) (expression d) i) _ (e, j) _ (complete-primary d deep e i j h r (omega arith))
      (bind-is (tails_from (room d) (expression d) (left j) [] j) _ ([], j) _ (complete-tails_from no_tails (left j) [] j j (omega arith) (passes-nothing j) stop) refl)

  complete-postfixed : (e : Expression Span) (i j : Input) → looseness e ≤ 1 → Passes (SpellsExpression e d) i j → 1 < binding (kind j) → postfixed (room d) (expression d) i ≡ Some (e, j)
  unfolding postfixed tails
  complete-postfixed (postfix s e ts) i j h r stop =
      let p = passes-split (SpellsExpression e d) (SpellsTails ts d) i j (part _ _ i j r r.fits.3) in
      let one = first-tails ts d p.at j r.fits.1 p.second in
      bind-is (primary (room d) (expression d) i) _ (e, p.at) _ (complete-primary d deep e i p.at r.fits.2 p.first (omega arith))
      (bind-is (tails_from (room d) (expression d) (left p.at) [] p.at) _ (tail_list ts, j) _ (complete-tails_from ts (left p.at) [] p.at j (omega arith) p.second stop)
      (ap (λ x. Some (x, j)) (with-tails-is (span_from (from i) j) e ts r.fits.1 ∙ ap (λ y. postfix y e ts) (covered s i j r.used r.fits.0 r.took))))
  complete-postfixed (unary s o e) i j h r stop = absurd (omega arith)
  complete-postfixed (row s e os) i j h r stop = absurd (omega arith)
  complete-postfixed (conditional s c y n) i j h r stop = absurd (omega arith)
  complete-postfixed e i j h r stop = tailless-is e i j (omega arith) r stop

  -- ---- an operator before an operand

  signless-is : (e : Expression Span) (i j : Input) → looseness e ≤ 1 → Passes (SpellsExpression e d) i j → 1 < binding (kind j) → unaried (room d) (expression d) i ≡ Some (e, j)
  unfolding unaried
  signless-is e i j h r stop =
      let b = begins-expression e d i j r in
      rw (unary-none (kind i) (omega arith)) (complete-postfixed e i j h r stop)

  unary-is : (s : Span) (o : UnaryOperator) (e : Expression Span) (i j : Input) → Passes (SpellsExpression (unary s o e) d) i j → 1 < binding (kind j) → unaried (room d) (expression d) i ≡ Some (unary s o e, j)
  unfolding unaried
  unary-is s o e i j r stop =
      let p = passes-split (One (unary_kind o)) (SpellsExpression e d) i j (part _ _ i j r r.fits.2) in
      let w = one-read (unary_kind o) i p.at p.first in
      rw (w.is, unary-some o) (rw w.goes (bind-is (postfixed (room d) (expression d) p.at) _ (e, j) _ (complete-postfixed e p.at j r.fits.1 p.second stop)
      (ap (λ y. Some (unary y o e, j)) (covered s i j r.used r.fits.0 r.took))))

  complete-unaried : (e : Expression Span) (i j : Input) → looseness e ≤ 2 → Passes (SpellsExpression e d) i j → 1 < binding (kind j) → unaried (room d) (expression d) i ≡ Some (e, j)
  complete-unaried (unary s o e) i j h r stop = unary-is s o e i j r stop
  complete-unaried (row s e os) i j h r stop = let some = row-some os r.fits.1 in absurd (omega arith)
  complete-unaried e i j h r stop = signless-is e i j (omega arith) r stop

  -- ---- rows

  complete-operands_from : (l : ℕ) (tighter : (e : Expression Span) (i j : Input) → looseness e ≤ 2 + l → Passes (SpellsExpression e d) i j → 2 + l < binding (kind j) → row_at (room d) (expression d) l i ≡ Some (e, j))
      (os : Operands Span) (n : ℕ) (found : List (Operator × Expression Span)) (i j : Input) → left i ≤ n → Passes (SpellsOperands os (suc l) d) i j → 2 + suc l < binding (kind j)
      → operands_from (room d) (expression d) (suc l) (row_at (room d) (expression d) l) n found i ≡ Some (found ++ operand_list os, j)
  unfolding operands_from
  complete-operands_from l tighter no_operands zero found i j fuel r stop = ap₂ (λ f x. Some (f, x)) (sym (append-nil found)) (nothing-same i j r)
  complete-operands_from l tighter no_operands (suc n) found i j fuel r stop =
      rw (nothing-same i j r) (no-at (row_of (kind j) == suc l) _ _ j _ (no-row (kind j) l stop) (ap (λ f. Some (f, j)) (sym (append-nil found))))
  complete-operands_from l tighter (operand o e more) zero found i j fuel r stop =
      let p = passes-split (One (operator_kind o)) _ i j (part _ _ i j r r.fits.2) in
      let less = falls (One (operator_kind o)) i p.at (one-some (operator_kind o)) p.first in
      absurd (omega arith)
  complete-operands_from l tighter (operand o e more) (suc n) found i j fuel r stop =
      let P = SpellsExpression e d in
      let Q = SpellsOperands more (suc l) d in
      let p = passes-split (One (operator_kind o)) (Then (Each (operator_rest o)) (Then P Q)) i j (part _ _ i j r r.fits.2) in
      let m = passes-split (Each (operator_rest o)) (Then P Q) p.at j p.second in
      let q = passes-split P Q m.at j m.second in
      let less = falls (One (operator_kind o)) i p.at (one-some (operator_kind o)) p.first in
      let none = passes-left (Each (operator_rest o)) p.at m.at m.first in
      let lesser = falls P m.at q.at (expression-some e d) q.first in
      let small = r.fits.1 in
      let value = tighter e m.at q.at (omega arith) q.first (operand-stop more l d q.at j q.second stop) in
      let rest = complete-operands_from l tighter more n (found ++ (o, e) ∷ []) q.at j (omega arith) q.second stop in
      let row-is = (first-operands (operand o e more) (suc l) d i j tt r).0 in
      yes-at (row_of (kind i) == suc l) _ _ i _ (eq-eqb (row_of (kind i)) (suc l) row-is)
      (bind-is (operator i) _ (o, m.at) _ (complete-operator o i p.at m.at p.first m.first)
      (bind-is (row_at (room d) (expression d) l m.at) _ (e, q.at) _ value
      (rest ∙ ap (λ f. Some (f, j)) (append_assoc found ((o, e) ∷ []) (operand_list more)))))

  -- what holds together tighter than the row
  climbed-is : (l : ℕ) (tighter : (e : Expression Span) (i j : Input) → looseness e ≤ 2 + l → Passes (SpellsExpression e d) i j → 2 + l < binding (kind j) → row_at (room d) (expression d) l i ≡ Some (e, j))
      (e : Expression Span) (i j : Input) → looseness e ≤ 2 + l → Passes (SpellsExpression e d) i j → 2 + suc l < binding (kind j) → row_at (room d) (expression d) (suc l) i ≡ Some (e, j)
  unfolding row_at with_operands
  climbed-is l tighter e i j h r stop =
      bind-is (row_at (room d) (expression d) l i) _ (e, j) _ (tighter e i j h r (omega arith))
      (bind-is (operands_from (room d) (expression d) (suc l) (row_at (room d) (expression d) l) (left j) [] j) _ ([], j) _
      (complete-operands_from l tighter no_operands (left j) [] j j (omega arith) (passes-nothing j) stop) refl)

  same-level-is : (l : ℕ) (tighter : (e : Expression Span) (i j : Input) → looseness e ≤ 2 + l → Passes (SpellsExpression e d) i j → 2 + l < binding (kind j) → row_at (room d) (expression d) l i ≡ Some (e, j))
      (e : Expression Span) (i j : Input) → suc l ≤ 6 → looseness e ≡ 2 + suc l → Passes (SpellsExpression e d) i j → 2 + suc l < binding (kind j) → row_at (room d) (expression d) (suc l) i ≡ Some (e, j)
  unfolding row_at
  same-level-is l tighter (row s e os) i j most h r stop =
      let same : row_level os ≡ suc l = omega arith in
      let p = passes-split (SpellsExpression e d) (SpellsOperands os (row_level os) d) i j (part _ _ i j r r.fits.3) in
      let second : Passes (SpellsOperands os (suc l) d) p.at j = subst (λ x. Passes (SpellsOperands os x d) p.at j) same p.second in
      let small = r.fits.2 in
      bind-is (row_at (room d) (expression d) l i) _ (e, p.at) _ (tighter e i p.at (omega arith) p.first (operand-stop os l d p.at j second stop))
      (bind-is (operands_from (room d) (expression d) (suc l) (row_at (room d) (expression d) l) (left p.at) [] p.at) _ (operand_list os, j) _
      (complete-operands_from l tighter os (left p.at) [] p.at j (omega arith) second stop)
      (ap (λ x. Some (x, j)) (with-operands-is (span_from (from i) j) e os r.fits.1 ∙ ap (λ y. row y e os) (covered s i j r.used r.fits.0 r.took))))
  same-level-is l tighter e i j most h r stop = absurd (omega arith)

  complete-row : (l : ℕ) (e : Expression Span) (i j : Input) → l ≤ 6 → looseness e ≤ 2 + l → Passes (SpellsExpression e d) i j → 2 + l < binding (kind j) → row_at (room d) (expression d) l i ≡ Some (e, j)
  unfolding row_at
  complete-row zero e i j most h r stop = complete-unaried e i j (omega arith) r (omega arith)
  complete-row (suc l) e i j most h r stop =
      let tighter = λ (e : Expression Span) (i j : Input) (h : looseness e ≤ 2 + l) (r : Passes (SpellsExpression e d) i j) (s : 2 + l < binding (kind j)). complete-row l e i j (omega arith) h r s in
      elim (eqb_tells (looseness e) (2 + suc l)) [
        | inl w ↦ same-level-is l tighter e i j most w.1 r stop
        | inr w ↦ (let other = w.1 in climbed-is l tighter e i j (omega arith) r stop)
      ]

  -- ---- conditionals

  unasked-is : (e : Expression Span) (i j : Input) → looseness e ≤ 8 → Passes (SpellsExpression e d) i j → Stops (kind j) → choice (room d) (expression d) i ≡ Some (e, j)
  unfolding choice
  unasked-is e i j h r stop =
      bind-is (row_at (room d) (expression d) 6 i) _ (e, j) _ (complete-row 6 e i j (omega arith) h r (omega arith))
      (no-at (sees k.Question j) _ _ j _ (not-sees k.Question j (stops-at 9 j k.Question stop (omega arith))) refl)

  complete-chosen : (e : Expression Span) (i j : Input) → Passes (SpellsExpression e d) i j → Stops (kind j) → choice (room d) (expression d) i ≡ Some (e, j)
  unfolding choice answered
  complete-chosen (conditional s c y n) i j r stop =
      let P = Deeper (SpellsExpression y) d in
      let Q = Deeper (SpellsExpression n) d in
      let p1 = passes-split (SpellsExpression c d) (Then (One k.Question) (Then P (Then (One k.Colon) Q))) i j (part _ _ i j r r.fits.2) in
      let p2 = passes-split (One k.Question) (Then P (Then (One k.Colon) Q)) p1.at j p1.second in
      let p3 = passes-split P (Then (One k.Colon) Q) p2.at j p2.second in
      let p4 = passes-split (One k.Colon) Q p3.at j p3.second in
      let question = one-read k.Question p1.at p2.at p2.first in
      let colon = one-read k.Colon p3.at p4.at p4.first in
      let less = p3.first.fits.less in
      let tight : 8 < binding (kind p1.at) = rw question.is (omega arith) in
      let free : Stops (kind p3.at) = rw colon.is (omega arith) in
      bind-is (row_at (room d) (expression d) 6 i) _ (c, p1.at) _ (complete-row 6 c i p1.at (omega arith) r.fits.1 p1.first tight)
      (yes-at (sees k.Question p1.at) _ _ p1.at _ (yes-sees k.Question p1.at question.is)
      (yes-at (room d) _ _ p1.at _ (room-is d (omega arith))
      (rw question.goes
      (bind-is (expression d p2.at) _ (y, p3.at) _ (deep y p2.at p3.at p3.first free)
      (bind-is (expect k.Colon p3.at) _ (tt, p4.at) _ (expect-is k.Colon p3.at p4.at p4.first)
      (bind-is (expression d p4.at) _ (n, j) _ (deep n p4.at j p4.second stop)
      (ap (λ x. Some (conditional x c y n, j)) (covered s i j r.used r.fits.0 r.took))))))))
  complete-chosen (row s e os) i j r stop = let most = row-most os in unasked-is (row s e os) i j (omega arith) r stop
  complete-chosen e i j r stop = unasked-is e i j (omega arith) r stop

-- ---- every depth

pub complete-expression : (d : ℕ) (e : Expression Span) (i j : Input) → Passes (Deeper (SpellsExpression e) d) i j → Stops (kind j) → expression d i ≡ Some (e, j)
unfolding expression
complete-expression zero e i j r stop = let less = r.fits.less in absurd (omega arith)
complete-expression (suc d) e i j r stop =
    let less = r.fits.less in
    let same : r.fits.inner ≡ d = omega arith in
    complete-chosen d (complete-expression d) e i j (part _ _ i j r (subst (λ x. SpellsExpression e x r.used) same r.fits.spelled)) stop

pub complete-listed : (d : ℕ) (l : Listing Span) (b : Bracket) (i j : Input) → Passes (SpellsListing l b d) i j → listed (room d) (expression d) b i ≡ Some (l, j)
complete-listed d l b i j r = listed-is d (complete-expression d) l b i j r
