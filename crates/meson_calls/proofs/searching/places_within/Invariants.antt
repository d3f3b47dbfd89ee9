use Rattle.meson_calls.proofs.Words.{◌≡◌, ◌++◌, ◌==◌, filter}
use Rattle.std.specs.Vec.Iter.{into_iter_items}
use Rattle.meson_calls.specs.declared.call.CallRef.{CallRef}
use Rattle.meson_calls.proofs.searching.places_within.Given as goal

abbrev pub invariant-loop-place : goal.invariant-loop-place
invariant-loop-place l = record {
  joined : l.fn.places.items ≡ l.yielded ++ into_iter_items l.place-iterator;
  kept : l.kept.items ≡ filter (λ (c : CallRef). c.file == l.file) l.yielded;
}
