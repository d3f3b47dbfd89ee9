-- So many names are in the list, which begins where it began.
use Rattle.meson_steps.specs.OrderedLists.{IsOrderedList, Ordered}
use Rattle.meson_sources.proofs.sorting.put_names.Given as goal
use Rattle.meson_sources.proofs.Words.{◌+◌, ◌≡◌}
use Rattle.meson_sources.proofs.sorted.Putting.{Put}

abbrev pub invariant-loop-i : goal.invariant-loop-i
invariant-loop-i l = record {
  from : l.into.from ≡ l.fn.into.from;
  end : l.into.end ≡ l.fn.into.end + l.i;
  put : (o : Ordered) → IsOrderedList l.fn.into o → Put (λ x. x.now) l.list o l.into l.steps.items l.names l.i;
}
