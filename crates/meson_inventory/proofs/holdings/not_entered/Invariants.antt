use Rattle.std.proofs.Common.{◌≡◌, ◌++◌}
use Rattle.std.specs.Vec.Iter.{into_iter_items}
use Rattle.meson_inventory.specs.inside.Holdings.{not_entered_at}
use Rattle.meson_inventory.proofs.holdings.not_entered.Given as goal

abbrev pub invariant-loop-place : goal.invariant-loop-place
invariant-loop-place l = record {
  joined : l.fn.places.items ≡ l.yielded ++ into_iter_items l.place-iterator;
  kept : l.left.items ≡ not_entered_at l.reading l.project l.yielded;
}
