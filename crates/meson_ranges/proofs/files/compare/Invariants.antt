use Rattle.meson_ranges.proofs.Compared.{IsUnderWay}
use Rattle.meson_ranges.proofs.files.compare.Given as goal

abbrev pub invariant-loop-i : goal.invariant-loop-i
invariant-loop-i l = IsUnderWay l.old l.new l.i l.changes.items
