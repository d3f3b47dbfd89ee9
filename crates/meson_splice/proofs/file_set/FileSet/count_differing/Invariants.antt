use Rattle.std.proofs.Common.{◌≡◌, ◌+◌, ◌≤◌, drop}
use Rattle.meson_splice.specs.Files.{differing}
use Rattle.meson_splice.proofs.file_set.FileSet.count_differing.Given as goal

-- the count so far, and what the files that are left come to
abbrev pub invariant-loop-i : goal.invariant-loop-i
invariant-loop-i l = record {
  fits : l.count ≤ l.i;
  counted : l.count + differing (drop l.i l.self) (drop l.i l.after) ≡ differing l.self l.after;
}
