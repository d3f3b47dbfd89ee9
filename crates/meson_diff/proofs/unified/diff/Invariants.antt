use Rattle.meson_diff.proofs.Files.{IsUnderWay}
use Rattle.meson_diff.proofs.unified.diff.Given as goal

abbrev pub invariant-loop-i : goal.invariant-loop-i
invariant-loop-i l = IsUnderWay l.old l.new l.i l.text.items
