use Rattle.std.proofs.Common.{◌≡◌, drop}
use Rattle.meson_syntax.specs.View.{args_view}
use Rattle.meson_details.specs.Details.{variable_in, of_each}
use Rattle.meson_details.proofs.EachShown.{after}
use Rattle.meson_details.proofs.showing.variables_in.Given as goal

abbrev pub invariant-loop-i : goal.invariant-loop-i
invariant-loop-i l = of_each variable_in (args_view l.source l.elements) ≡ after l.names.items (of_each variable_in (args_view l.source (drop l.i l.elements)))
