use Rattle.std.proofs.Common.{◌≡◌, ◌-◌, drop}
use Rattle.meson_steps.specs.Order.{ascend}
use Rattle.meson_steps.proofs.order.ascend.Given as goal

abbrev pub invariant-loop-i : goal.invariant-loop-i
invariant-loop-i l = ascend (drop (l.i - 1) l.keys) ≡ ascend l.keys
