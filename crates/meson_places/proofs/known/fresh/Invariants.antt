use Rattle.std.proofs.Common.{◌≡◌, [], ◌++◌, drop, map, take}
use Rattle.meson_places.specs.Equality.{fresh}
use Rattle.meson_places.specs.inside.Found.{is_known}
use Rattle.meson_places.proofs.known.fresh.Given as goal

abbrev pub invariant-loop-i : goal.invariant-loop-i
invariant-loop-i l = map (λ x. x.now) l.all.items ++ fresh (is_known l.source l.known) (take l.i l.values) (drop l.i l.values) ≡ fresh (is_known l.source l.known) [] l.values
