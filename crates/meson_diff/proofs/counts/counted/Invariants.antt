use Rattle.std.proofs.Common.{◌≡◌, length, take}
use Rattle.meson_diff.specs.Alignment.{new_lines, old_lines}
use Rattle.meson_diff.proofs.counts.counted.Given as goal

abbrev pub invariant-loop-entry : goal.invariant-loop-entry
invariant-loop-entry l = record {
  of_old : l.so_far.of_old ≡ length (old_lines (take l.entry-index l.entries));
  of_new : l.so_far.of_new ≡ length (new_lines (take l.entry-index l.entries));
}
