use Rattle.std.proofs.Common.{◌≡◌, ◌++◌}
use Rattle.std.specs.Prelude.{filter}
use Rattle.std.specs.Vec.Iter.{into_iter_items}
use Rattle.meson_inventory.specs.declared.holdings.HeldCall.{HeldCall}
use Rattle.meson_explaining.specs.ArgumentPlaces.{is_searched}
use Rattle.meson_explaining.proofs.argument_places.searched_calls.Given as goal

abbrev pub invariant-loop-call : goal.invariant-loop-call
invariant-loop-call l = record {
  joined : l.fn.calls ≡ l.yielded ++ into_iter_items l.call-iterator;
  kept : l.searched.items ≡ filter (λ (c : HeldCall). is_searched l.only c.file) l.yielded;
}
