use Rattle.std.proofs.Common.{take}
use Rattle.meson_places.specs.Several.{AllMayBeGiven}
use Rattle.meson_places.proofs.arguments.reads_all.Given as goal

abbrev pub invariant-loop-i : goal.invariant-loop-i
invariant-loop-i l = AllMayBeGiven (take l.i l.values)
