-- The rank of elements and operands.
use Rattle.meson_variables.proofs.Words.{◌≡◌, ℕ, zero, suc, ◌<◌, ◌≤◌, List, [], ◌∷◌, length, get_or, ap, arith, arguments_of, operands_of, expr_view, list_view}
use Rattle.meson_variables.proofs.Words.{arg_view, args_view, operand_view, operands_view, Arg, Operand, list_is, operand_value, rank, operands_rank}
use Rattle.meson_variables.proofs.Words.{argument_rank, arguments_rank, listing_rank}
use Rattle.meson_syntax.specs.declared.tree.List as rust

module _ (source : List ℕ) where
  -- ---- rank

  pub args_rank : (l : rust.List) → listing_rank (list_view source l) ≡ suc (arguments_rank (arguments_of (args_view source (rust.out-List l).items)))
  args_rank l = ap listing_rank (list_is source l)

  pub arg_rank : (args : List Arg) (i : ℕ) (d : Arg) → i < length args → argument_rank (arg_view source (get_or args i d)) < suc (arguments_rank (arguments_of (args_view source args)))
  arg_rank [] i d within = absurd (omega arith)
  arg_rank (a ∷ args) zero d within = let x = argument_rank (arg_view source a) in let y = arguments_rank (arguments_of (args_view source args)) in omega arith
  arg_rank (a ∷ args) (suc i) d within =
      let below : i < length args = omega arith in
      let more = arg_rank args i d below in
      omega arith

  pub operand_rank : (rest : List Operand) (i : ℕ) (d : Operand) → i < length rest → rank (expr_view source (get_or rest i d).value) ≤ operands_rank (operands_of (operands_view source rest))
  operand_rank [] i d within = absurd (omega arith)
  operand_rank (o ∷ rest) zero d within =
      let same = ap rank (operand_value source o) in
      let x = rank (operand_view source o).1 in
      let y = operands_rank (operands_of (operands_view source rest)) in
      omega arith
  operand_rank (o ∷ rest) (suc i) d within =
      let below : i < length rest = omega arith in
      let more = operand_rank rest i d below in
      omega arith
