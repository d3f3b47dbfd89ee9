use Rattle.std.proofs.Common.{◌≡◌, ◌++◌, drop, map}
use Rattle.std.specs.Prelude.{filter}
use Rattle.meson_explaining.specs.Removals.{fixed_note, is_fixed}
use Rattle.meson_explaining.proofs.removals.all_fixed.Given as goal

abbrev pub invariant-loop-i : goal.invariant-loop-i
invariant-loop-i l = l.notes.items ++ map fixed_note (filter (is_fixed l.names) (drop l.i l.items)) ≡ map fixed_note (filter (is_fixed l.names) l.items)
