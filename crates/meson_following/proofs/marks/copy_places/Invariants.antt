use Rattle.std.proofs.Common.{◌≡◌, ◌++◌, drop}
use Rattle.meson_following.proofs.marks.copy_places.Given as goal

abbrev pub invariant-loop-place : goal.invariant-loop-place
invariant-loop-place l = l.all.items ++ drop l.place-index l.places ≡ l.places
