use Rattle.std.proofs.Common.{◌≡◌, ◌++◌, ℕ, List, drop}
use Rattle.std.specs.List.{flat_map}
use Rattle.meson_syntax.specs.View.{expr_view}
use Rattle.meson_entering.specs.Lists.{summands}
use Rattle.meson_entering.proofs.Sums.{views}
use Rattle.meson_entering.proofs.lists.+sums.Given as goal

abbrev pub invariant-add_operands-loop-i : goal.invariant-add_operands-loop-i
invariant-add_operands-loop-i l = (source : List ℕ)
    → views source l.found.items ++ flat_map (λ o. summands (expr_view source o.value)) (drop l.i l.operands) ≡ views source l.fn.found.items ++ flat_map (λ o. summands (expr_view source o.value)) l.operands
