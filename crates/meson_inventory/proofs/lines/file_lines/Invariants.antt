use Rattle.std.proofs.Common.{◌≡◌, ◌++◌, drop}
use Rattle.std.specs.Prelude.{flat_map, string_bytes}
use Rattle.meson_inventory.specs.Inventory.{file_line}
use Rattle.meson_inventory.proofs.lines.file_lines.Given as goal

abbrev pub invariant-loop-i : goal.invariant-loop-i
invariant-loop-i l = string_bytes l.text ++ flat_map file_line (drop l.i l.files) ≡ flat_map file_line l.files
