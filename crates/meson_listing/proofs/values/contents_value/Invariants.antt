use Rattle.std.proofs.Common.{◌≡◌, ◌++◌, map}
use Rattle.std.specs.Vec.Iter.{into_iter_items}
use Rattle.serde_json.specs.View.{view}
use Rattle.meson_listing.specs.Values.{content_data}
use Rattle.meson_listing.proofs.values.contents_value.Given as goal

abbrev pub invariant-loop-key : goal.invariant-loop-key
invariant-loop-key l = record {
  joined : l.fn.contents ≡ l.yielded ++ into_iter_items l.key-iterator;
  seen : map view l.list.items ≡ map content_data l.yielded;
}
