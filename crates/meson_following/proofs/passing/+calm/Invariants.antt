use Rattle.std.proofs.Common.{◌≡◌, drop}
use Rattle.meson_syntax.specs.Tree.{branches_of, statements_of}
use Rattle.meson_syntax.specs.View.{branches_view, stmts_view}
use Rattle.meson_following.specs.Passing.{are_branches_calm, are_calm}
use Rattle.meson_following.proofs.passing.+calm.Given as goal

abbrev pub invariant-are_branches_calm-loop-i : goal.invariant-are_branches_calm-loop-i
invariant-are_branches_calm-loop-i l =
    are_branches_calm (branches_of (branches_view l.source (drop l.i l.branches))) ≡ are_branches_calm (branches_of (branches_view l.source l.branches))

abbrev pub invariant-is_block_calm-loop-i : goal.invariant-is_block_calm-loop-i
invariant-is_block_calm-loop-i l = are_calm (statements_of (stmts_view l.source (drop l.i l.stmts))) ≡ are_calm (statements_of (stmts_view l.source l.stmts))
