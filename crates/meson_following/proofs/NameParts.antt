-- Rows and calls of `format` as names.
use Rattle.std.proofs.Common.{◌≡◌, ℕ, ◌+◌, ◌<◌, ◌≤◌, ◌≢◌, List, [], ◌∷◌, ◌++◌, length, drop, get_or, refl, sym, ap, ◌∙◌, arith}
use Rattle.std.specs.Prelude.{false, true, if◌then◌else◌, nat_eq}
use Rattle.std.proofs.lemmas.Grind.{common_steps}
use Rattle.std.proofs.lemmas.List.{at_drop_more, at_drop_all}
use Rattle.meson_lex.specs.declared.kinds.Span.{Span}
use Rattle.meson_syntax.specs.declared.tree.Operand.{Operand}
use Rattle.meson_syntax.specs.declared.tree.Tail as rust_tail
use Rattle.meson_syntax.specs.Tree.{Expression, row, Operands, no_operands, operand, operands_of, tails_of}
use Rattle.meson_syntax.specs.Grammar.{expression_words, operator_words, operands_words}
use Rattle.meson_syntax.specs.View.{expr_view, operands_view, tail_view, tails_view}
use Rattle.meson_variables.specs.Expansion.{are_plus}
use Rattle.meson_calls.specs.Strings.{AreGood}
use Rattle.meson_calls.proofs.GoodParts.{good_left, good_right}
use Rattle.meson_calls.proofs.Parted.{operand_value}
use Rattle.meson_following.specs.declared.names.Fit.TheVariants.{Perhaps}
use Rattle.meson_following.specs.Names.{are_format, between, computed, fit, is_format, last_of, sum_naming}

pub any_fits : (x : List ℕ) → Perhaps ≡ fit x (between [] [])
any_fits x = grind (arith, common_steps)

module _ {S : Type 0} where
  pub last_good : (e : Expression S) (os : Operands S) → AreGood (expression_words e ++ operands_words os) → AreGood (expression_words (last_of e os))
  last_good e no_operands good = good_left (expression_words e) [] good
  last_good e (operand o f more) good =
      last_good f more (good_right (operator_words o) (expression_words f ++ operands_words more) (good_right (expression_words e) (operator_words o ++ (expression_words f ++ operands_words more)) good))

  module _ (x : List ℕ) (y : Expression S) (s : S) (e : Expression S) (os : Operands S) (is : y ≡ row s e os) where
    pub sum_fits : are_plus os ≡ true → fit x (sum_naming e os) ≡ fit x (computed y)
    sum_fits all = sym (ap (λ z. fit x (computed z)) is ∙ ap (λ b. fit x (if b then sum_naming e os else between [] [])) all)

    pub row_fits : are_plus os ≡ false → Perhaps ≡ fit x (computed y)
    row_fits some = any_fits x ∙ sym (ap (λ z. fit x (computed z)) is ∙ ap (λ b. fit x (if b then sum_naming e os else between [] [])) some)

module _ (source : List ℕ) where
  abbrev last_from : Expression Span → List Operand → Expression Span
  last_from e rest = last_of e (operands_of (operands_view source rest))

  pub last_step : (e : Expression Span) (rest : List Operand) (i : ℕ) (d : Operand) → i < length rest → last_from e (drop i rest) ≡ last_from (expr_view source (get_or rest i d).value) (drop (i + 1) rest)
  last_step e rest i d within = at_drop_more (last_from e) rest i d within ∙ ap (λ f. last_from f (drop (i + 1) rest)) (operand_value source (get_or rest i d))

  pub last_done : (e : Expression Span) (rest : List Operand) (i : ℕ) → length rest ≤ i → last_from e (drop i rest) ≡ e
  last_done e rest i past = at_drop_all (last_from e) rest i past

  pub one_format : (ts : List rust_tail.Tail) (d : rust_tail.Tail) → length ts ≡ 1 → is_format (tail_view source (get_or ts 0 d)) ≡ are_format (tails_of (tails_view source ts))
  one_format [] d is = absurd (omega (arith, is))
  one_format (t ∷ []) d is = refl
  one_format (t ∷ u ∷ ts) d is = absurd (omega (arith, is))

  pub no_format : (ts : List rust_tail.Tail) → length ts ≢ 1 → nat_eq (length ts) 1 ≡ are_format (tails_of (tails_view source ts))
  no_format [] other = refl
  no_format (t ∷ []) other = absurd (other refl)
  no_format (t ∷ u ∷ ts) other = grind (arith, common_steps)
