use Rattle.std.proofs.Common.{◌≡◌, ◌++◌}
use Rattle.meson_explaining.specs.Targets.{file_notes}
use Rattle.meson_explaining.proofs.targets.add_files.Given as goal

abbrev pub invariant-loop-file : goal.invariant-loop-file
invariant-loop-file l = l.notes.items ≡ l.initial.notes.items ++ file_notes l.file
