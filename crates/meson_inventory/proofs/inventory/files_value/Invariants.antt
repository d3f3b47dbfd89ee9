use Rattle.std.proofs.Common.{◌≡◌, ◌++◌, drop, map}
use Rattle.serde_json.specs.View.{view}
use Rattle.meson_inventory.specs.Inventory.{file_data}
use Rattle.meson_inventory.proofs.inventory.files_value.Given as goal

abbrev pub invariant-loop-i : goal.invariant-loop-i
invariant-loop-i l = map view l.list.items ++ map file_data (drop l.i l.files) ≡ map file_data l.files
