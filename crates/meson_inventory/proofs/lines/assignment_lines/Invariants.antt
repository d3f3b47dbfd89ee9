use Rattle.std.proofs.Common.{◌≡◌, ◌++◌, drop}
use Rattle.std.specs.Prelude.{flat_map, string_bytes}
use Rattle.meson_inventory.specs.Inventory.{assignment_line}
use Rattle.meson_inventory.proofs.lines.assignment_lines.Given as goal

abbrev pub invariant-loop-assignment : goal.invariant-loop-assignment
invariant-loop-assignment l = record {
  files : l.lines.files.now ≡ l.files;
  so_far : string_bytes l.text ++ flat_map (assignment_line l.files) (drop l.assignment-index l.assignments) ≡ flat_map (assignment_line l.files) l.assignments;
}
