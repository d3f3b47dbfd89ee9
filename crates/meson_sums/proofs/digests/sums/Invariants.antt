use Rattle.std.proofs.Common.{◌≡◌, ◌++◌, drop}
use Rattle.meson_sums.specs.Sums.{sums}
use Rattle.meson_sums.proofs.digests.sums.Given as goal

abbrev pub invariant-loop-i : goal.invariant-loop-i
invariant-loop-i l = l.text.items ++ sums (drop l.i l.files) ≡ sums l.files
