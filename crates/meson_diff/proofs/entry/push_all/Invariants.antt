use Rattle.std.proofs.Common.{◌≡◌, ◌++◌, drop}
use Rattle.meson_diff.specs.Alignment.{marked}
use Rattle.meson_diff.proofs.entry.push_all.Given as goal

abbrev pub invariant-loop-line : goal.invariant-loop-line
invariant-loop-line l = l.entries.items ++ marked l.mark (drop l.line-index l.lines) ≡ l.initial.entries.items ++ marked l.mark l.lines
