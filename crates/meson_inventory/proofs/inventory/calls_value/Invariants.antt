use Rattle.std.proofs.Common.{◌≡◌, ◌++◌, map}
use Rattle.std.specs.Vec.Iter.{into_iter_items}
use Rattle.serde_json.specs.View.{view}
use Rattle.meson_inventory.specs.Inventory.{held_data}
use Rattle.meson_inventory.proofs.inventory.calls_value.Given as goal

abbrev pub invariant-loop-call : goal.invariant-loop-call
invariant-loop-call l = record {
  joined : l.fn.calls ≡ l.yielded ++ into_iter_items l.call-iterator;
  seen : map view l.list.items ≡ map (held_data l.files) l.yielded;
}
