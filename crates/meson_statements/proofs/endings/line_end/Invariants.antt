use Rattle.meson_layout.proofs.ReadItems.{read}
use Rattle.meson_layout.specs.Statements.{line_end_of}
use Rattle.meson_statements.proofs.FileEnds.{IsSeeking}
use Rattle.meson_statements.proofs.endings.line_end.Given as goal

abbrev pub invariant-loop-item : goal.invariant-loop-item
invariant-loop-item l = IsSeeking l.source (line_end_of (read l.source l.initial.item-iterator)).text l.item-iterator
