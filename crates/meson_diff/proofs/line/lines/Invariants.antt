use Rattle.std.proofs.Common.{◌≡◌, ◌++◌, length}
use Rattle.meson_diff.specs.Lines.{lines}
use Rattle.meson_diff.proofs.line.lines.Given as goal

-- the lines so far, and those that are left
abbrev pub invariant-loop-rest : goal.invariant-loop-rest
invariant-loop-rest l = l.all.items ++ lines l.rest ≡ lines l.text

abbrev pub decreases-loop-rest : goal.decreases-loop-rest
decreases-loop-rest l = length l.rest
