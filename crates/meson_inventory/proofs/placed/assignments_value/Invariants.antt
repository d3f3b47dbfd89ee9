use Rattle.std.proofs.Common.{◌≡◌, ◌++◌, map}
use Rattle.std.specs.Vec.Iter.{into_iter_items}
use Rattle.serde_json.specs.View.{view}
use Rattle.meson_inventory.specs.Placed.{placed_assignment_data}
use Rattle.meson_inventory.proofs.placed.assignments_value.Given as goal

abbrev pub invariant-loop-assignment : goal.invariant-loop-assignment
invariant-loop-assignment l = record {
  files : l.positions.files.now ≡ l.files;
  joined : l.fn.assignments ≡ l.yielded ++ into_iter_items l.assignment-iterator;
  seen : map view l.list.items ≡ map (placed_assignment_data l.files) l.yielded;
}
