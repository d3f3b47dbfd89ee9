use Rattle.std.proofs.Common.{◌≡◌, List, ℕ, drop}
use Rattle.meson_syntax.specs.inside.Children.{args_parts, look}
use Rattle.meson_syntax.proofs.path.in_args.Given as goal

-- what is left of the number looks in the elements that are left
abbrev pub invariant-loop-i : goal.invariant-loop-i
invariant-loop-i l = (source : List ℕ) → look (args_parts source (drop l.i l.args)) l.left ≡ look (args_parts source l.args) l.n
