use Rattle.std.proofs.Common.{◌≡◌, take}
use Rattle.meson_syntax.proofs.copy_statements.+copy_statement.Given as goal

abbrev pub invariant-copy_stmts-loop-i : goal.invariant-copy_stmts-loop-i
invariant-copy_stmts-loop-i l = l.copies ≡ take l.i l.stmts

abbrev pub invariant-copy_branches-loop-i : goal.invariant-copy_branches-loop-i
invariant-copy_branches-loop-i l = l.copies ≡ take l.i l.branches
