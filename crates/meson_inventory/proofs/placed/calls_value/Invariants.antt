use Rattle.std.proofs.Common.{◌≡◌, ◌++◌, map}
use Rattle.std.specs.Vec.Iter.{into_iter_items}
use Rattle.serde_json.specs.View.{view}
use Rattle.meson_inventory.specs.Placed.{placed_call_data}
use Rattle.meson_inventory.proofs.placed.calls_value.Given as goal

abbrev pub invariant-loop-call : goal.invariant-loop-call
invariant-loop-call l = record {
  files : l.positions.files.now ≡ l.files;
  joined : l.fn.calls ≡ l.yielded ++ into_iter_items l.call-iterator;
  seen : map view l.list.items ≡ map (placed_call_data l.files) l.yielded;
}
