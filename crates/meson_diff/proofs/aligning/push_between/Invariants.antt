use Rattle.std.proofs.Common.{◌≡◌, ◌++◌, length}
use Rattle.meson_diff.specs.Alignment.{GoOn, new_lines, old_lines}
use Rattle.meson_diff.proofs.aligning.push_between.Given as goal

-- the lines of the entries so far, and those that are left; what keeps the nearest of those goes on
abbrev pub invariant-loop-at : goal.invariant-loop-at
invariant-loop-at l = record {
  of_old : old_lines l.entries.items ++ l.old_left ≡ old_lines l.initial.entries.items ++ l.old;
  of_new : new_lines l.entries.items ++ l.new_left ≡ new_lines l.initial.entries.items ++ l.new;
  nearest : GoOn l.old l.new l.initial.entries.items → GoOn l.old_left l.new_left l.entries.items;
}

abbrev pub decreases-loop-at : goal.decreases-loop-at
decreases-loop-at l = length l.old_left
