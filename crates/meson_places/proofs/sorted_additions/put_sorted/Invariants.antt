use Rattle.std.proofs.Common.{◌≡◌, ◌+◌, List, map}
use Rattle.meson_steps.specs.OrderedLists.{Added, IsOrderedList, Ordered}
use Rattle.meson_places.specs.SortedAdditions.{given_key}
use Rattle.meson_places.specs.Values.{given_bytes}
use Rattle.meson_places.proofs.SortedSteps.{Reached}
use Rattle.meson_places.proofs.sorted_additions.put_sorted.Given as goal

abbrev pub invariant-loop-i : goal.invariant-loop-i
invariant-loop-i l = record {
  from : l.into.from ≡ l.initial.into.from;
  end : l.into.end ≡ l.initial.into.end + l.i;
  steps : (o : Ordered) → IsOrderedList l.initial.into o → (new : List Added) → map (λ a. a.key) new ≡ map given_key (map (λ x. x.now) l.values)
      → map (λ a. a.written.bytes) new ≡ map given_bytes (map (λ x. x.now) l.values) → Reached l.list o new l.i l.into l.steps.items;
}
