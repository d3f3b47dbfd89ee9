use Rattle.std.proofs.Common.{◌≡◌, ◌++◌, drop}
use Rattle.std.specs.Prelude.{flat_map, string_bytes}
use Rattle.meson_inventory.specs.Inventory.{call_line}
use Rattle.meson_inventory.proofs.lines.call_lines.Given as goal

abbrev pub invariant-loop-call : goal.invariant-loop-call
invariant-loop-call l = record {
  files : l.lines.files.now ≡ l.files;
  so_far : string_bytes l.text ++ flat_map (call_line l.files l.more) (drop l.call-index l.calls) ≡ flat_map (call_line l.files l.more) l.calls;
}
