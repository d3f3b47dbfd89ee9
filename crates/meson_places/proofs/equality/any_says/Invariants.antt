use Rattle.std.proofs.Common.{◌≡◌, drop}
use Rattle.std.specs.List.{list_any}
use Rattle.meson_syntax.specs.View.{args_view}
use Rattle.meson_places.specs.Equality.{element_says}
use Rattle.meson_places.proofs.equality.any_says.Given as goal

abbrev pub invariant-loop-i : goal.invariant-loop-i
invariant-loop-i l = list_any (element_says l.source l.given) (args_view l.source (drop l.i l.elements)) ≡ list_any (element_says l.source l.given) (args_view l.source l.elements)
