-- The place of a part of a project names it.
use Rattle.meson_calls.proofs.Words.{◌≡◌, ℕ, List, [], Some, refl, ◌∙◌, Span, Any, a_block, nth, block_of, file, child_nodes, node_at, Every, Part}
use Rattle.meson_calls.proofs.Words.{parts_of_file, Placed, child, place, CallRef}
use Rattle.meson_syntax.specs.Tree.{File}
use Rattle.meson_calls.proofs.ListNodes.{node_below}
use Rattle.meson_calls.proofs.nodes.EachPart.{each_part}
use Rattle.meson_calls.proofs.nodes.PartsBelow.{any}

module _ (k : ℕ) (r : Any Span) where
  abbrev pub At : CallRef → Any Span → Type 0
  At p y = (p.file ≡ k) × (node_at r p.path.steps ≡ Some y)

  abbrev pub Each : List (Placed (Part Span)) → Type 0
  Each = Every (λ q. At q.place (any q.it))

  down : (p : CallRef) (x : Any Span) → At p x → (n : ℕ) (y : Any Span) → nth (child_nodes x) n ≡ Some y → At (child p n) y
  down p x at n y is = (at.0, node_below Span r p.path.steps x n at.1 ∙ is)

pub file_each : (n : ℕ) (f : File Span) → Each n (a_block (block_of f)) (parts_of_file n f)
file_each n (file s b) =
    let r = a_block b in each_part (At n r) (λ q. At n r q.place (any q.it)) (down n r) (λ p x at. at) (place n []) r (refl, refl)
