use Rattle.std.proofs.Common.{◌≡◌, ◌++◌, drop, map}
use Rattle.meson_explaining.specs.Nearest.{far}
use Rattle.meson_explaining.proofs.nearest.distances.Given as goal

abbrev pub invariant-loop-call : goal.invariant-loop-call
invariant-loop-call l = l.distances.items ++ map (far l.id) (drop l.call-index l.calls) ≡ map (far l.id) l.calls
