use Rattle.std.proofs.Common.{◌≡◌, ◌++◌, map}
use Rattle.std.specs.Vec.Iter.{into_iter_items}
use Rattle.meson_ranges.specs.Ranges.{ranged}
use Rattle.meson_ranges.proofs.Ranged.{AreLeft}
use Rattle.meson_ranges.proofs.ranges.with_ranges.Given as goal

abbrev pub invariant-loop-edit : goal.invariant-loop-edit
invariant-loop-edit l = record {
  joined : l.fn.edits.items ≡ l.yielded ++ into_iter_items l.edit-iterator;
  left : AreLeft l.text (into_iter_items l.edit-iterator) l.from l.position;
  made : l.all.items ≡ map (ranged l.text) l.yielded;
}
