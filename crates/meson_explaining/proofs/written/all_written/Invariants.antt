use Rattle.std.proofs.Common.{◌≡◌}
use Rattle.meson_explaining.specs.Written.{written_below}
use Rattle.meson_explaining.proofs.written.all_written.Given as goal

abbrev pub invariant-loop-file : goal.invariant-loop-file
invariant-loop-file l = l.notes.items ≡ written_below l.files l.name l.file
