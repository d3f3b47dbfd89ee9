use Rattle.std.proofs.Common.{◌≡◌}
use Rattle.meson_explaining.specs.ArgumentValues.{deepest}
use Rattle.meson_explaining.proofs.argument_values.deepest.Given as goal

abbrev pub invariant-loop-n : goal.invariant-loop-n
invariant-loop-n l = l.found ≡ deepest l.project l.place l.keys l.n
