use Rattle.std.proofs.Common.{◌≡◌, List, take, map, string_bytes}
use Rattle.std.specs.Prelude.{false}
use Rattle.std.specs.List.{list_any}
use Rattle.meson_splice.specs.declared.file_set.File.{File}
use Rattle.meson_calls.specs.FileNames.{AreFileNames, is_file}
use Rattle.meson_inventory.proofs.holdings.is_any.Given as goal

abbrev pub invariant-loop-i : goal.invariant-loop-i
invariant-loop-i l = (all : List File) → AreFileNames l.files all → list_any (is_file all) (map string_bytes (take l.i l.names)) ≡ false
