use Rattle.meson_steps.proofs.Words.{◌≡◌, List, ℕ, drop, option_and_then, a_block, block_view, node_at, layer_any, layer_view}
use Rattle.meson_steps.proofs.statements.layer_at.Given as goal

-- the steps that are left go on to the same node
abbrev pub invariant-loop-i : goal.invariant-loop-i
invariant-loop-i l = (source : List ℕ) → option_and_then layer_any (node_at (layer_view source l.layer) (drop l.i l.steps)) ≡ option_and_then layer_any (node_at (a_block (block_view source l.tree.block)) l.steps)
