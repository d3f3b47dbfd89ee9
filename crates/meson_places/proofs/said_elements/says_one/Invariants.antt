use Rattle.std.proofs.Common.{◌≡◌, drop}
use Rattle.meson_syntax.specs.View.{arg_view}
use Rattle.meson_places.specs.SaidElements.{says_one}
use Rattle.meson_places.proofs.said_elements.says_one.Given as goal

abbrev pub invariant-loop-i : goal.invariant-loop-i
invariant-loop-i l = says_one l.source (drop l.i l.values) (arg_view l.source l.element) ≡ says_one l.source l.values (arg_view l.source l.element)
