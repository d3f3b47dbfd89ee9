use Rattle.std.proofs.Common.{◌≡◌, ◌++◌, length, take}
use Rattle.meson_diff.specs.Alignment.{new_lines, old_lines}
use Rattle.meson_diff.specs.Hunks.{texts_before}
use Rattle.meson_diff.proofs.hunk.push_hunks.Given as goal

-- the hunks so far, and how many lines they and what is between them are
abbrev pub invariant-loop-i : goal.invariant-loop-i
invariant-loop-i l = record {
  written : l.to.items ≡ l.initial.to.items ++ texts_before l.entries l.i;
  of_old : l.before.of_old ≡ length (old_lines (take l.i l.entries));
  of_new : l.before.of_new ≡ length (new_lines (take l.i l.entries));
}
