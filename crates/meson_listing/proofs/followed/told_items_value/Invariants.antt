use Rattle.std.proofs.Common.{◌≡◌, ◌++◌, map}
use Rattle.std.specs.Vec.Iter.{into_iter_items}
use Rattle.serde_json.specs.View.{view}
use Rattle.meson_sharing.specs.CodeTold.{told_item_view}
use Rattle.meson_listing.specs.Followed.{told_item_data}
use Rattle.meson_listing.proofs.followed.told_items_value.Given as goal

abbrev pub invariant-loop-item : goal.invariant-loop-item
invariant-loop-item l = record {
  joined : l.fn.items.items ≡ l.yielded ++ into_iter_items l.item-iterator;
  seen : map view l.list.items ≡ map (told_item_data l.files) (map told_item_view l.yielded);
}
