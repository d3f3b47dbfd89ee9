use Rattle.std.proofs.Common.{◌≡◌, ◌++◌, drop, map}
use Rattle.meson_warnings.specs.Overwrites.{lost_note}
use Rattle.meson_warnings.proofs.overwrites.add_lost.Given as goal

abbrev pub invariant-loop-value : goal.invariant-loop-value
invariant-loop-value l = l.notes.items ++ map lost_note (drop l.value-index l.values) ≡ l.initial.notes.items ++ map lost_note l.values
