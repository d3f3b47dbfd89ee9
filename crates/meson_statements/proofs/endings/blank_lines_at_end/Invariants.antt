use Rattle.meson_layout.proofs.ReadItems.{read}
use Rattle.meson_statements.specs.declared.endings.Ending.TheVariants as ending
use Rattle.meson_statements.specs.Gaps.{ending_after}
use Rattle.meson_statements.proofs.FileEnds.{IsEnding}
use Rattle.meson_statements.proofs.endings.blank_lines_at_end.Given as goal

abbrev pub invariant-loop-item : goal.invariant-loop-item
invariant-loop-item l = IsEnding l.source (ending_after (ending.Lines 0) (read l.source l.initial.item-iterator)) l.ending l.item-iterator
