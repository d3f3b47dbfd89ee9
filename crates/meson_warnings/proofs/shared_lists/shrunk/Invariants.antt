use Rattle.std.proofs.Common.{◌≡◌, ◌++◌, drop}
use Rattle.std.specs.Prelude.{flat_map}
use Rattle.meson_warnings.specs.SharedLists.{lost_from}
use Rattle.meson_warnings.proofs.shared_lists.shrunk.Given as goal

abbrev pub invariant-loop-item : goal.invariant-loop-item
invariant-loop-item l = l.variables.items ++ flat_map (lost_from l.names) (drop l.item-index l.items) ≡ flat_map (lost_from l.names) l.items
