use Rattle.std.proofs.Common.{◌≡◌, ◌-◌, drop, length}
use Rattle.meson_diff.proofs.aligning.common_tail.Given as goal

abbrev pub invariant-loop-n : goal.invariant-loop-n
invariant-loop-n l = drop (length l.old - l.n) l.old ≡ drop (length l.new - l.n) l.new
