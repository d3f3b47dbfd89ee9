use Rattle.std.proofs.Common.{◌≡◌}
use Rattle.meson_syntax.specs.MovedCode.{moved_branch, moved_stmt}
use Rattle.meson_syntax.specs.Moving.{border_by}
use Rattle.meson_syntax.proofs.InPlace.{exchanged}
use Rattle.meson_syntax.proofs.shift.+shift_statement.Given as goal

abbrev pub invariant-shift_stmts-loop-i : goal.invariant-shift_stmts-loop-i
invariant-shift_stmts-loop-i l = goal.unvisited-shift_stmts-loop-i l × (l.stmts ≡ exchanged (moved_stmt (border_by l.by)) l.i l.initial.stmts)

abbrev pub invariant-shift_branches-loop-i : goal.invariant-shift_branches-loop-i
invariant-shift_branches-loop-i l = goal.unvisited-shift_branches-loop-i l × (l.branches ≡ exchanged (moved_branch (border_by l.by)) l.i l.initial.branches)
