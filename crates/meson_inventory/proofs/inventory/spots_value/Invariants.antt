use Rattle.std.proofs.Common.{◌≡◌, map, take}
use Rattle.serde_json.specs.View.{view}
use Rattle.meson_inventory.specs.Inventory.{spot_data}
use Rattle.meson_inventory.proofs.inventory.spots_value.Given as goal

abbrev pub invariant-loop-call : goal.invariant-loop-call
invariant-loop-call l = map view l.list.items ≡ map (spot_data l.files) (take l.call-index l.calls)
