use Rattle.std.proofs.Common.{◌≡◌, List, ℕ, drop}
use Rattle.meson_syntax.specs.Children.{a_block}
use Rattle.meson_syntax.specs.inside.Children.{node_at, node_view}
use Rattle.meson_syntax.specs.View.{block_view}
use Rattle.meson_syntax.proofs.tree.Parsed.node_at.Given as goal

-- the steps that are left go on from the node
abbrev pub invariant-loop-i : goal.invariant-loop-i
invariant-loop-i l = (source : List ℕ) → node_at (node_view source l.node) (drop l.i l.steps) ≡ node_at (a_block (block_view source l.self.block)) l.steps
