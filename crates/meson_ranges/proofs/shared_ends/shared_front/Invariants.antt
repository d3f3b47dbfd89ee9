use Rattle.std.proofs.Common.{◌≡◌, take}
use Rattle.meson_ranges.specs.Trimming.{IsSharedFront}
use Rattle.meson_ranges.proofs.Longest.{IsLongestOf}
use Rattle.meson_ranges.proofs.shared_ends.shared_front.Given as goal

abbrev pub invariant-loop-n : goal.invariant-loop-n
invariant-loop-n l = (take l.n l.was ≡ take l.n l.now) × IsLongestOf (IsSharedFront l.was l.now) l.n l.front
