use Rattle.std.proofs.Common.{take}
use Rattle.meson_store.specs.Output.{Gets}
use Rattle.meson_rewrite.specs.Lines.{left_lines}
use Rattle.meson_rewrite.proofs.lines.tell_left.Given as goal

-- the lines of the files so far were written
abbrev pub invariant-loop-name : goal.invariant-loop-name
invariant-loop-name g l = Gets (g.O.Output.heard l.initial.to) (g.O.Output.heard l.to) (left_lines (take l.name-index l.names))
