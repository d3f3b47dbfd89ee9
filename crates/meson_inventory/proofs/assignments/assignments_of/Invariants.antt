use Rattle.std.proofs.Common.{◌≡◌, ◌++◌, drop}
use Rattle.meson_calls.proofs.FileTurns.{left}
use Rattle.meson_inventory.specs.Assignments.{assignments_among}
use Rattle.meson_inventory.proofs.assignments.assignments_of.Given as goal

abbrev pub invariant-loop-i : goal.invariant-loop-i
invariant-loop-i l = l.all.items ++ assignments_among (left l.i (drop l.i l.files) (drop l.i l.trees)) ≡ assignments_among (left 0 l.files l.trees)
