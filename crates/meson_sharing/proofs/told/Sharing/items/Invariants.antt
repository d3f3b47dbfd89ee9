use Rattle.std.proofs.Common.{◌≡◌, ◌++◌, map}
use Rattle.std.specs.Vec.Iter.{into_iter_items}
use Rattle.meson_following.specs.CodeFollowing.{mark_view}
use Rattle.meson_sharing.specs.CodeTold.{IsKept, items_with, told_item_view}
use Rattle.meson_sharing.proofs.told.Sharing.items.Given as goal

abbrev pub invariant-loop-mark : goal.invariant-loop-mark
invariant-loop-mark l = record {
  joined : l.fn.marks.items ≡ l.yielded ++ into_iter_items l.mark-iterator;
  told : map told_item_view l.items.items ≡ items_with l.self (map mark_view l.yielded);
  kept : IsKept l.self l.kept;
}
