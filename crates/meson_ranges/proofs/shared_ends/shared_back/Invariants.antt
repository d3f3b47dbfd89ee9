use Rattle.std.proofs.Common.{◌≡◌, ◌-◌, drop, length}
use Rattle.meson_ranges.specs.Trimming.{IsSharedBack}
use Rattle.meson_ranges.proofs.Longest.{IsLongestOf}
use Rattle.meson_ranges.proofs.shared_ends.shared_back.Given as goal

abbrev pub invariant-loop-n : goal.invariant-loop-n
invariant-loop-n l =
    (drop (length l.was - l.n) l.was ≡ drop (length l.now - l.n) l.now)
    × IsLongestOf (IsSharedBack l.was l.now) l.n l.back
