use Rattle.std.proofs.Common.{◌≡◌, ◌++◌}
use Rattle.std.specs.Vec.Iter.{into_iter_items}
use Rattle.meson_places.specs.Names.{searched}
use Rattle.meson_places.proofs.lookup.searched.Given as goal

abbrev pub invariant-loop-place : goal.invariant-loop-place
invariant-loop-place l = record {
  joined : l.fn.places.items ≡ l.yielded ++ into_iter_items l.place-iterator;
  kept : l.kept.items ≡ searched l.within l.yielded;
}
