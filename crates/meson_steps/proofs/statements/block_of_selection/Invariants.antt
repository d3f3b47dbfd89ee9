use Rattle.meson_steps.proofs.Words.{◌≡◌, List, ℕ, drop, otherwise_view, otherwise_parts}
use Rattle.meson_steps.proofs.StatementsThere.{look_block}
use Rattle.meson_steps.proofs.statements.block_of_selection.Given as goal

-- what is left of the number looks in the branches that are left
abbrev pub invariant-loop-i : goal.invariant-loop-i
invariant-loop-i l = (source : List ℕ) → look_block source (otherwise_parts (otherwise_view source l.otherwise)) (drop l.i l.branches) l.left ≡ look_block source (otherwise_parts (otherwise_view source l.otherwise)) l.branches l.n
