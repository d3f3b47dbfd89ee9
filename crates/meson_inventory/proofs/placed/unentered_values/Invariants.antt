use Rattle.std.proofs.Common.{◌≡◌, map, take}
use Rattle.serde_json.specs.View.{view}
use Rattle.meson_inventory.specs.Placed.{unentered_data}
use Rattle.meson_inventory.proofs.placed.unentered_values.Given as goal

abbrev pub invariant-loop-call : goal.invariant-loop-call
invariant-loop-call l = record {
  files : l.positions.files.now ≡ l.files;
  seen : map view l.list.items ≡ map (unentered_data l.files) (take l.call-index l.calls);
}
