use Rattle.std.proofs.Common.{◌≡◌, drop}
use Rattle.meson_following.specs.Following.{one_of_places}
use Rattle.meson_following.proofs.makers.is_one_of.Given as goal

abbrev pub invariant-loop-other : goal.invariant-loop-other
invariant-loop-other l = one_of_places (drop l.other-index l.places) l.place ≡ one_of_places l.places l.place
