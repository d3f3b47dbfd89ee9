use Rattle.std.proofs.Common.{◌≡◌, map, take}
use Rattle.serde_json.specs.View.{view}
use Rattle.meson_inventory.specs.Info.{placed_item_data}
use Rattle.meson_inventory.proofs.info.items_value.Given as goal

abbrev pub invariant-loop-item : goal.invariant-loop-item
invariant-loop-item l = record {
  files : l.positions.files.now ≡ l.files;
  seen : map view l.list.items ≡ map (placed_item_data l.files) (take l.item-index l.items);
}
