use Rattle.std.proofs.Common.{◌≡◌, drop}
use Rattle.meson_syntax.specs.View.{args_view}
use Rattle.meson_details.specs.Details.{literal_in, of_each}
use Rattle.meson_details.proofs.EachShown.{after}
use Rattle.meson_details.proofs.showing.literals_in.Given as goal

abbrev pub invariant-loop-i : goal.invariant-loop-i
invariant-loop-i l = of_each literal_in (args_view l.source l.elements) ≡ after l.texts.items (of_each literal_in (args_view l.source (drop l.i l.elements)))
