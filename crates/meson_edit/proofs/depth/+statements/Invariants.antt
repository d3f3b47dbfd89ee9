use Rattle.meson_edit.proofs.Words.{◌≡◌, nat_le, List, ℕ, drop, branches_depth, statements_depth, branches_of, statements_of, branches_view, stmts_view}
use Rattle.meson_edit.proofs.depth.+statements.Given as goal

-- those before have room, so all have where those that are left have
abbrev pub invariant-branches_fit-loop-i : goal.invariant-branches_fit-loop-i
invariant-branches_fit-loop-i l =
    (source : List ℕ) → nat_le (branches_depth (branches_of (branches_view source (drop l.i l.branches)))) l.room ≡ nat_le (branches_depth (branches_of (branches_view source l.branches))) l.room

abbrev pub invariant-block_fits-loop-i : goal.invariant-block_fits-loop-i
invariant-block_fits-loop-i l =
    (source : List ℕ) → nat_le (statements_depth (statements_of (stmts_view source (drop l.i l.stmts)))) l.room ≡ nat_le (statements_depth (statements_of (stmts_view source l.stmts))) l.room
