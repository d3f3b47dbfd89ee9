use Rattle.meson_calls.proofs.SettersKept.{KeptUpTo}
use Rattle.meson_calls.proofs.kept.keep_setters.Given as goal

abbrev pub invariant-loop-i : goal.invariant-loop-i
invariant-loop-i l = KeptUpTo l.i l.files l.trees l.kept.items
