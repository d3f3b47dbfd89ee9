use Rattle.std.proofs.Common.{◌≡◌, ◌++◌, map}
use Rattle.std.specs.Vec.Iter.{into_iter_items}
use Rattle.meson_following.specs.CodeMakers.{maker_view}
use Rattle.std.specs.Prelude.{filter, not}
use Rattle.meson_following.specs.Makers.{is_among, unsure}
use Rattle.meson_following.proofs.makers.further.Given as goal

abbrev pub invariant-loop-other : goal.invariant-loop-other
invariant-loop-other l = record {
  joined : l.fn.others.items ≡ l.yielded ++ into_iter_items l.other-iterator;
  kept : map maker_view l.all.items ≡ map unsure (filter (λ n. not (is_among (map maker_view l.makers) n)) (map maker_view l.yielded));
}
