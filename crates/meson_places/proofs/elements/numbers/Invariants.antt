use Rattle.std.proofs.Common.{◌≡◌, ◌++◌, drop}
use Rattle.meson_syntax.specs.View.{args_view}
use Rattle.meson_places.specs.Slots.{passing}
use Rattle.meson_places.specs.inside.Wanted.{is_wanted}
use Rattle.meson_places.proofs.elements.numbers.Given as goal

abbrev pub invariant-loop-i : goal.invariant-loop-i
invariant-loop-i l = l.all.items ++ passing (is_wanted l.wanted) l.i (args_view l.source (drop l.i l.elements)) ≡ passing (is_wanted l.wanted) 0 (args_view l.source l.elements)
