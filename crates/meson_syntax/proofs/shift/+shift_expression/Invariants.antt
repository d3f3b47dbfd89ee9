use Rattle.std.proofs.Common.{◌≡◌}
use Rattle.meson_syntax.specs.MovedCode.{moved_arg, moved_operand, moved_tail}
use Rattle.meson_syntax.specs.Moving.{border_by}
use Rattle.meson_syntax.proofs.InPlace.{exchanged}
use Rattle.meson_syntax.proofs.shift.+shift_expression.Given as goal

abbrev pub invariant-shift_args-loop-i : goal.invariant-shift_args-loop-i
invariant-shift_args-loop-i l = goal.unvisited-shift_args-loop-i l × (l.args ≡ exchanged (moved_arg (border_by l.by)) l.i l.initial.args)

abbrev pub invariant-shift_operands-loop-i : goal.invariant-shift_operands-loop-i
invariant-shift_operands-loop-i l = goal.unvisited-shift_operands-loop-i l × (l.operands ≡ exchanged (moved_operand (border_by l.by)) l.i l.initial.operands)

abbrev pub invariant-shift_tails-loop-i : goal.invariant-shift_tails-loop-i
invariant-shift_tails-loop-i l = goal.unvisited-shift_tails-loop-i l × (l.tails ≡ exchanged (moved_tail (border_by l.by)) l.i l.initial.tails)
