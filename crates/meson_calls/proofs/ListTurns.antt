-- The parts of arguments, operands and tails over a source, and how many children they count.
use Rattle.meson_calls.proofs.Words.{ℕ, List, Span, arguments_of, operands_of, tails_of, arg_view, args_view, operand_view, operands_view, tail_view}
use Rattle.meson_calls.proofs.Words.{tails_view, Arg, Operand, Part, parts_of_expression, parts_of_argument, parts_of_arguments, parts_of_operands}
use Rattle.meson_calls.proofs.Words.{parts_of_tail, parts_of_tails, argument_child_count, arguments_child_count, tail_child_count, Placed, child, CallRef}
use Rattle.meson_syntax.specs.declared.tree.Tail as rust_tail

module _ (source : List ℕ) where
  abbrev pub args_size : Arg → ℕ
  args_size x = argument_child_count (arg_view source x)

  abbrev pub args_count : List Arg → ℕ
  args_count xs = arguments_child_count (arguments_of (args_view source xs))

  abbrev pub tail_size : rust_tail.Tail → ℕ
  tail_size x = tail_child_count (tail_view source x)

module _ (source : List ℕ) (p : CallRef) where
  abbrev pub args_parts : ℕ → List Arg → List (Placed (Part Span))
  args_parts n xs = parts_of_arguments p n (arguments_of (args_view source xs))

  abbrev pub args_part : ℕ → Arg → List (Placed (Part Span))
  args_part n x = parts_of_argument p n (arg_view source x)

  abbrev pub row_parts : ℕ → List Operand → List (Placed (Part Span))
  row_parts n xs = parts_of_operands p n (operands_of (operands_view source xs))

  abbrev pub row_part : ℕ → Operand → List (Placed (Part Span))
  row_part n x = parts_of_expression (child p n) (operand_view source x).1

  abbrev pub tail_list_parts : ℕ → List rust_tail.Tail → List (Placed (Part Span))
  tail_list_parts n xs = parts_of_tails p n (tails_of (tails_view source xs))

  abbrev pub tail_part : ℕ → rust_tail.Tail → List (Placed (Part Span))
  tail_part n x = parts_of_tail p n (tail_view source x)
