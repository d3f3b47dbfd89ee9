use Rattle.std.proofs.Common.{◌≡◌, ◌+◌, ℕ, List, length}
use Rattle.meson_syntax.specs.Children.{argument_parts}
use Rattle.meson_syntax.specs.inside.Putting.{ahead}
use Rattle.meson_syntax.specs.View.{arg_view}
use Rattle.meson_syntax.proofs.list_mut.arg_spot.Given as goal

-- the parts of the elements so far, and what is left of the number
abbrev pub invariant-loop-i : goal.invariant-loop-i
invariant-loop-i l = (source : List ℕ) → l.n ≡ ahead (λ x. length (argument_parts (arg_view source x))) l.args l.i + l.left
