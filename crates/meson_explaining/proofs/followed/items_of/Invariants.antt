use Rattle.std.proofs.Common.{◌≡◌, ◌++◌, map}
use Rattle.std.specs.Vec.Iter.{into_iter_items}
use Rattle.meson_sharing.specs.CodeTold.{told_item_view}
use Rattle.meson_explaining.specs.Followed.{item_of}
use Rattle.meson_explaining.proofs.followed.items_of.Given as goal

abbrev pub invariant-loop-one : goal.invariant-loop-one
invariant-loop-one l = record {
  joined : l.fn.told.items ≡ l.yielded ++ into_iter_items l.one-iterator;
  seen : l.items.items ≡ map item_of (map told_item_view l.yielded);
}
