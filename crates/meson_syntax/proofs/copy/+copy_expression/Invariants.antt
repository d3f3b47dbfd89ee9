use Rattle.std.proofs.Common.{◌≡◌, take}
use Rattle.meson_syntax.proofs.copy.+copy_expression.Given as goal

abbrev pub invariant-copy_args-loop-i : goal.invariant-copy_args-loop-i
invariant-copy_args-loop-i l = l.copies ≡ take l.i l.args

abbrev pub invariant-copy_operands-loop-i : goal.invariant-copy_operands-loop-i
invariant-copy_operands-loop-i l = l.copies ≡ take l.i l.operands

abbrev pub invariant-copy_tails-loop-i : goal.invariant-copy_tails-loop-i
invariant-copy_tails-loop-i l = l.copies ≡ take l.i l.tails
