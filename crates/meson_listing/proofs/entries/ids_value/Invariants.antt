use Rattle.std.proofs.Common.{◌≡◌, ◌++◌, map}
use Rattle.std.specs.Vec.Iter.{into_iter_items}
use Rattle.serde_json.specs.View.{view}
use Rattle.meson_listing.specs.Entries.{id_data}
use Rattle.meson_listing.proofs.entries.ids_value.Given as goal

abbrev pub invariant-loop-name : goal.invariant-loop-name
invariant-loop-name l = record {
  joined : l.fn.names ≡ l.yielded ++ into_iter_items l.name-iterator;
  seen : map view l.list.items ≡ map id_data l.yielded;
}
