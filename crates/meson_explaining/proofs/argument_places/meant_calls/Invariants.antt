use Rattle.std.proofs.Common.{◌≡◌, ◌++◌}
use Rattle.std.specs.Prelude.{filter}
use Rattle.std.specs.Vec.Iter.{into_iter_items}
use Rattle.meson_explaining.specs.ArgumentPlaces.{is_meant}
use Rattle.meson_explaining.proofs.argument_places.meant_calls.Given as goal

abbrev pub invariant-loop-call : goal.invariant-loop-call
invariant-loop-call l = record {
  joined : l.fn.calls ≡ l.yielded ++ into_iter_items l.call-iterator;
  kept : l.meant.items ≡ filter (is_meant l.only l.id) l.yielded;
}
