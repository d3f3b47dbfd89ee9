use Rattle.std.proofs.Common.{◌≡◌, ◌++◌, map}
use Rattle.std.specs.Vec.Iter.{into_iter_items}
use Rattle.serde_json.specs.View.{view}
use Rattle.meson_sharing.specs.CodeTold.{told_item_view}
use Rattle.meson_inventory.specs.Info.{placed_told_data}
use Rattle.meson_inventory.proofs.followed.tolds_value.Given as goal

abbrev pub invariant-loop-item : goal.invariant-loop-item
invariant-loop-item l = record {
  joined : l.fn.items.items ≡ l.yielded ++ into_iter_items l.item-iterator;
  files : l.positions.files.now ≡ l.files;
  seen : map view l.list.items ≡ map (placed_told_data l.files) (map told_item_view l.yielded);
}
