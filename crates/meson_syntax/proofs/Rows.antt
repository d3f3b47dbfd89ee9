-- A row of any level is what stands behind its first operand.
use Rattle.std.proofs.Common.{◌≡◌, ℕ, zero, suc, ◌+◌, ◌-◌, ◌<◌, Bool, false, ◌==◌, [], Some, None, refl, ap, sym, ◌∙◌, ⊎_elim, arith}
use Rattle.std.proofs.lemmas.Bool.{cases_lt}
use Rattle.std.proofs.lemmas.Grind.{common_steps}
use Rattle.meson_lex.specs.declared.kinds.Span.{Span}
use Rattle.meson_syntax.specs.inside.Input.{Input, Outcome, Parser, and_then, from, kind, left, span_from}
use Rattle.meson_syntax.specs.inside.Reading.{operands_from, row_at, row_of, unaried, with_operands}
use Rattle.meson_syntax.specs.inside.Rows.{operands, row_with}
use Rattle.meson_syntax.specs.Tree.{Expression}

and_then-pure : {A : Type 0} (o : Outcome A) → and_then o (λ a i. Some (a, i)) ≡ o
and_then-pure None = refl
and_then-pure (Some p) = refl

and_then-and_then : {A B C : Type 0} (o : Outcome A) (f : A → Parser B) (g : B → Parser C) → and_then (and_then o f) g ≡ and_then o (λ a i. and_then (f a i) g)
and_then-and_then None f g = refl
and_then-and_then (Some p) f g = refl

module _ (room : Bool) (inner : Parser (Expression Span)) where
  -- what is read behind the first operand of a row of this level
  abbrev behind : ℕ → ℕ → Expression Span → Parser (Expression Span)
  behind n start e = λ j. and_then (operands room inner (suc n) j) (λ os k. Some (with_operands (span_from start k) e os, k))

  row_at-suc : (n : ℕ) (i : Input) → row_at room inner (suc n) i ≡ and_then (row_at room inner n i) (behind n (from i))
  unfolding row_at operands
  row_at-suc n i =
      let less : n ≡ suc n - 1 = omega arith in
      ap (λ m. and_then (row_at room inner n i) (λ e j. and_then (operands_from room inner (suc n) (row_at room inner m) (left j) [] j) (λ os k. Some (with_operands (span_from (from i) k) e os, k)))) less

  row_with-suc : (n start : ℕ) (e : Expression Span) (i : Input) → row_with room inner (suc n) start e i ≡ and_then (row_with room inner n start e i) (behind n start)
  unfolding row_with
  row_with-suc n start e i = refl

  pub row_at-with : (n : ℕ) (i : Input) → row_at room inner n i ≡ and_then (unaried room inner i) (λ e. row_with room inner n (from i) e)
  unfolding row_at row_with
  row_at-with zero i = sym (and_then-pure (unaried room inner i))
  row_at-with (suc n) i =
      row_at-suc n i
      ∙ ap (λ o. and_then o (behind n (from i))) (row_at-with n i)
      ∙ and_then-and_then (unaried room inner i) (λ e. row_with room inner n (from i) e) (behind n (from i))

  -- no operator of this row follows
  operands_from-other : (level turns : ℕ) (tighter : Parser (Expression Span)) (i : Input) → (row_of (kind i) == level) ≡ false → operands_from room inner level tighter turns [] i ≡ Some ([], i)
  unfolding operands_from
  operands_from-other level zero tighter i other = refl
  operands_from-other level (suc turns) tighter i other = simp other

  pub operands-other : (level : ℕ) (i : Input) → (row_of (kind i) == level) ≡ false → operands room inner level i ≡ Some ([], i)
  unfolding operands
  operands-other level i other = operands_from-other level (left i) (row_at room inner (level - 1)) i other

  pub row_with-none : (n start : ℕ) (e : Expression Span) (i : Input) → row_of (kind i) ≡ 0 → row_with room inner n start e i ≡ Some (e, i)
  unfolding row_with operands with_operands
  row_with-none zero start e i none = refl
  row_with-none (suc n) start e i none =
      row_with-suc n start e i
      ∙ ap (λ o. and_then o (behind n start)) (row_with-none n start e i none)
      ∙ ap (λ o. and_then o (λ os k. Some (with_operands (span_from start k) e os, k))) (operands-other (suc n) i (let other : (row_of (kind i) == suc n) ≡ false = grind (arith, common_steps) in other))

  -- the row of the next level is what stands behind the one that is read
  row_with-more : (n start : ℕ) (e e' : Expression Span) (i j : Input) (o : Outcome (Expression Span)) → row_with room inner n start e i ≡ Some (e', j) → behind n start e' j ≡ o → row_with room inner (suc n) start e i ≡ o
  row_with-more n start e e' i j o so_far more = row_with-suc n start e i ∙ ap (λ o. and_then o (behind n start)) so_far ∙ more

  next : (n : ℕ) → n + 1 ≡ suc n
  next n = let e : n + 1 ≡ suc n = omega arith in e

  -- an operator of the next level follows
  pub row_with-longer : (n start : ℕ) (e e' : Expression Span) (i j : Input) (o : Outcome (Expression Span)) → row_with room inner n start e i ≡ Some (e', j)
      → and_then (operands room inner (n + 1) j) (λ os k. Some (with_operands (span_from start k) e' os, k)) ≡ o → row_with room inner (n + 1) start e i ≡ o
  row_with-longer n start e e' i j o so_far more =
      ap (λ m. row_with room inner m start e i) (next n)
      ∙ row_with-more n start e e' i j o so_far (ap (λ m. and_then (operands room inner m j) (λ os k. Some (with_operands (span_from start k) e' os, k))) (sym (next n)) ∙ more)

  -- none does
  pub row_with-same : (n start : ℕ) (e e' : Expression Span) (i j : Input) → row_with room inner n start e i ≡ Some (e', j) → (row_of (kind j) == n + 1) ≡ false → row_with room inner (n + 1) start e i ≡ Some (e', j)
  unfolding with_operands
  row_with-same n start e e' i j so_far other =
      row_with-longer n start e e' i j (Some (e', j)) so_far (ap (λ o. and_then o (λ os k. Some (with_operands (span_from start k) e' os, k))) (operands-other (n + 1) j other))

  -- where a tighter row is refused, each row is
  fails : (n m start : ℕ) (e : Expression Span) (i : Input) → row_with room inner (suc n) start e i ≡ None → n < m → row_with room inner m start e i ≡ None
  fails n zero start e i none below = absurd (omega (arith, below))
  fails n (suc m) start e i none below = ⊎_elim
      (λ under. row_with-suc m start e i ∙ ap (λ o. and_then o (behind m start)) (fails n m start e i none under))
      (λ over. let same : suc n ≡ suc m = omega arith in ap (λ k. row_with room inner k start e i) (sym same) ∙ none)
      (cases_lt n m)

  pub row_with-fails : (n m start : ℕ) (e e' : Expression Span) (i j : Input) → row_with room inner n start e i ≡ Some (e', j) → n < m
      → and_then (operands room inner (n + 1) j) (λ os k. Some (with_operands (span_from start k) e' os, k)) ≡ None → row_with room inner m start e i ≡ None
  row_with-fails n m start e e' i j so_far below refused =
      fails n m start e i (ap (λ m. row_with room inner m start e i) (sym (next n)) ∙ row_with-longer n start e e' i j None so_far refused) below
