use Rattle.std.proofs.Common.{◌≡◌, drop}
use Rattle.meson_syntax.specs.View.{args_view}
use Rattle.meson_places.specs.Insertions.{number_saying}
use Rattle.meson_places.proofs.insertions.number_saying.Given as goal

abbrev pub invariant-loop-i : goal.invariant-loop-i
invariant-loop-i l = number_saying l.source l.given l.i (args_view l.source (drop l.i l.elements)) ≡ number_saying l.source l.given 0 (args_view l.source l.elements)
