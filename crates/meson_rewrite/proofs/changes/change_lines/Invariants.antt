use Rattle.std.proofs.Common.{◌≡◌, ◌+◌, ◌++◌, length, reverse}
use Rattle.meson_rewrite.specs.Changes.{change_lines}
use Rattle.meson_rewrite.proofs.changes.change_lines.Given as goal

-- the lines so far, and behind them those of the changes that are left
abbrev pub invariant-loop-change : goal.invariant-loop-change
invariant-loop-change l = record {
  fits : l.number + length l.change-iterator.iter.rest.now ≡ length l.changes + 1;
  so_far : l.text.items ++ change_lines l.word l.number (reverse l.change-iterator.iter.rest.now) ≡ change_lines l.word 1 (reverse l.changes);
}
