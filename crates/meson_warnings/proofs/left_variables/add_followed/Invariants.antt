use Rattle.std.proofs.Common.{◌≡◌, ◌++◌, drop}
use Rattle.std.specs.Prelude.{flat_map}
use Rattle.meson_warnings.specs.SharedLists.{variable_in}
use Rattle.meson_warnings.proofs.left_variables.add_followed.Given as goal

abbrev pub invariant-loop-item : goal.invariant-loop-item
invariant-loop-item l = l.variables.items ++ flat_map variable_in (drop l.item-index l.items) ≡ l.initial.variables.items ++ flat_map variable_in l.items
