use Rattle.std.proofs.Common.{◌≡◌, take}
use Rattle.meson_diff.proofs.aligning.common_head.Given as goal

abbrev pub invariant-loop-n : goal.invariant-loop-n
invariant-loop-n l = take l.n l.old ≡ take l.n l.new
