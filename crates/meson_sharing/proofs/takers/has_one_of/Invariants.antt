use Rattle.std.proofs.Common.{◌≡◌, drop}
use Rattle.std.specs.List.{list_any}
use Rattle.meson_following.specs.Following.{one_of_places}
use Rattle.meson_sharing.proofs.takers.has_one_of.Given as goal

abbrev pub invariant-loop-place : goal.invariant-loop-place
invariant-loop-place l = list_any (one_of_places l.others) (drop l.place-index l.places) ≡ list_any (one_of_places l.others) l.places
