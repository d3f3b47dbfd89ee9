use Rattle.std.proofs.Common.{◌≡◌, ◌++◌, drop}
use Rattle.std.specs.Prelude.{flat_map}
use Rattle.meson_warnings.specs.LeftVariables.{variables_shown}
use Rattle.meson_warnings.proofs.left_variables.add_all_shown.Given as goal

abbrev pub invariant-loop-value : goal.invariant-loop-value
invariant-loop-value l =
    l.variables.items ++ flat_map (λ p. variables_shown p.1) (drop l.value-index l.pairs) ≡ l.initial.variables.items ++ flat_map (λ p. variables_shown p.1) l.pairs
