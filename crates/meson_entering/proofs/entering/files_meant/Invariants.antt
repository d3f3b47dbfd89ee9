use Rattle.std.proofs.Common.{◌≡◌, ◌++◌, [], drop, map, string_bytes}
use Rattle.std.specs.List.{cons_option, flat_map}
use Rattle.meson_calls.specs.Entering.{folder_file}
use Rattle.meson_entering.proofs.entering.files_meant.Given as goal

abbrev pub invariant-loop-i : goal.invariant-loop-i
invariant-loop-i l =
    map string_bytes l.names.items ++ flat_map (λ folder. cons_option (folder_file l.reading l.file.name.now (string_bytes folder)) []) (drop l.i l.folders.items)
    ≡ flat_map (λ folder. cons_option (folder_file l.reading l.file.name.now (string_bytes folder)) []) l.folders.items
