use Rattle.std.proofs.Common.{◌≡◌, ◌++◌, ◌-◌}
use Rattle.meson_places.specs.Operands.{children_from}
use Rattle.meson_places.proofs.operands.first_children.Given as goal

abbrev pub invariant-loop-i : goal.invariant-loop-i
invariant-loop-i l = l.places.items ++ children_from l.place l.i (l.many - l.i) ≡ children_from l.place 0 l.many
