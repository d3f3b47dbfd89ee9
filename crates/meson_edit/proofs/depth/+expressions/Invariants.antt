use Rattle.meson_edit.proofs.Words.{◌≡◌, nat_le, List, ℕ, drop, operands_depth, tails_depth, arguments_depth, operands_of, tails_of, arguments_of}
use Rattle.meson_edit.proofs.Words.{operands_view, tails_view, args_view}
use Rattle.meson_edit.proofs.depth.+expressions.Given as goal

-- the elements before have room, so all have where those that are left have
abbrev pub invariant-args_fit-loop-i : goal.invariant-args_fit-loop-i
invariant-args_fit-loop-i l =
    (source : List ℕ) → nat_le (arguments_depth (arguments_of (args_view source (drop l.i l.args)))) l.room ≡ nat_le (arguments_depth (arguments_of (args_view source l.args))) l.room

abbrev pub invariant-operands_fit-loop-i : goal.invariant-operands_fit-loop-i
invariant-operands_fit-loop-i l =
    (source : List ℕ) → nat_le (operands_depth (operands_of (operands_view source (drop l.i l.operands)))) l.room ≡ nat_le (operands_depth (operands_of (operands_view source l.operands))) l.room

abbrev pub invariant-tails_fit-loop-i : goal.invariant-tails_fit-loop-i
invariant-tails_fit-loop-i l =
    (source : List ℕ) → nat_le (tails_depth (tails_of (tails_view source (drop l.i l.tails)))) l.room ≡ nat_le (tails_depth (tails_of (tails_view source l.tails))) l.room
