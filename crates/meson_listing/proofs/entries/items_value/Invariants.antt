use Rattle.std.proofs.Common.{◌≡◌, ◌++◌, map}
use Rattle.std.specs.Vec.Iter.{into_iter_items}
use Rattle.serde_json.specs.View.{view}
use Rattle.meson_listing.specs.Entries.{item_data}
use Rattle.meson_listing.proofs.entries.items_value.Given as goal

abbrev pub invariant-loop-item : goal.invariant-loop-item
invariant-loop-item l = record {
  joined : l.fn.items ≡ l.yielded ++ into_iter_items l.item-iterator;
  seen : map view l.list.items ≡ map (item_data l.files) l.yielded;
}
