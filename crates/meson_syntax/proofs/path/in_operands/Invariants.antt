use Rattle.std.proofs.Common.{◌≡◌, List, ℕ, drop}
use Rattle.meson_syntax.specs.inside.Children.{rust_operands_parts, look}
use Rattle.meson_syntax.proofs.path.in_operands.Given as goal

-- what is left of the number looks in the elements that are left
abbrev pub invariant-loop-i : goal.invariant-loop-i
invariant-loop-i l = (source : List ℕ) → look (rust_operands_parts source (drop l.i l.operands)) l.left ≡ look (rust_operands_parts source l.operands) l.n
