use Rattle.std.proofs.Common.{◌≡◌, ◌++◌, map}
use Rattle.std.specs.Vec.Iter.{into_iter_items}
use Rattle.serde_json.specs.View.{view}
use Rattle.serde_json.specs.Data.{string}
use Rattle.meson_listing.proofs.entries.texts_value.Given as goal

abbrev pub invariant-loop-text : goal.invariant-loop-text
invariant-loop-text l = record {
  joined : l.fn.texts ≡ l.yielded ++ into_iter_items l.text-iterator;
  seen : map view l.list.items ≡ map string l.yielded;
}
