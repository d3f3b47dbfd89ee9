use Rattle.std.proofs.Common.{◌≡◌, ◌++◌, drop, map}
use Rattle.meson_warnings.specs.Reads.{spot_at}
use Rattle.meson_warnings.proofs.reads.add_spots.Given as goal

abbrev pub invariant-loop-place : goal.invariant-loop-place
invariant-loop-place l = l.spots.items ++ map (spot_at l.project) (drop l.place-index l.places) ≡ l.initial.spots.items ++ map (spot_at l.project) l.places
