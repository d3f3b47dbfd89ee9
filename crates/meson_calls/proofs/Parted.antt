-- The parts of an expression over a source, and those within it.
use Rattle.meson_calls.proofs.Words.{rules, ◌≡◌, ℕ, List, sym, ap, ◌∙◌, Span, row, postfix, conditional, pair, operands_of, tails_of, expr_view, arg_view}
use Rattle.meson_calls.proofs.Words.{operand_view, operands_view, tails_view, Expr, Operand}
use Rattle.meson_syntax.specs.declared.tree.Arg.TheVariants as arg
use Rattle.meson_syntax.specs.declared.tree.Arg.TheFolds.{the_lemmas}
use Rattle.meson_syntax.specs.declared.tree.Expr.TheVariants as e
use Rattle.meson_syntax.specs.declared.tree.Tail as rust_tail

module _ (source : List ℕ) where
  pub row_view : (s : Span) (first : Expr) (rest : List Operand) → expr_view source (e.Row s first rest) ≡ row s (expr_view source first) (operands_of (operands_view source rest))
  row_view s first rest = search (rules, the_lemmas)

  -- the same, where it is read
  pub row_is : (x : Expr) (s : Span) (first first2 : Expr) (rest rest2 : List Operand) → x ≡ e.Row s first rest → first2 ≡ first → rest2 ≡ rest → expr_view source x ≡ row s (expr_view source first2) (operands_of (operands_view source rest2))
  row_is x s first first2 rest rest2 is same_first same_rest =
      ap (expr_view source) is ∙ row_view s first rest
      ∙ ap (λ y. row s (expr_view source y) (operands_of (operands_view source rest))) (sym same_first)
      ∙ ap (λ ys. row s (expr_view source first2) (operands_of (operands_view source ys))) (sym same_rest)

  pub postfix_view : (s : Span) (base : Expr) (tails : List rust_tail.Tail) → expr_view source (e.Postfix s base tails) ≡ postfix s (expr_view source base) (tails_of (tails_view source tails))
  postfix_view s base tails = search (rules, the_lemmas)

  pub conditional_view : (s : Span) (c y n : Expr) → expr_view source (e.Conditional s c y n) ≡ conditional s (expr_view source c) (expr_view source y) (expr_view source n)
  conditional_view s c y n = search (rules, the_lemmas)

  pub pair_view : (s : Span) (k v : Expr) → arg_view source (arg.Pair s k v) ≡ pair s (expr_view source k) (expr_view source v)
  pair_view s k v = search (rules, the_lemmas)

  pub operand_operator : (o : Operand) → (operand_view source o).0 ≡ o.operator
  operand_operator o = search (rules, the_lemmas)

  pub operand_value : (o : Operand) → (operand_view source o).1 ≡ expr_view source o.value
  operand_value o = search (rules, the_lemmas)
