use Rattle.std.proofs.Common.{◌≡◌, ◌++◌, map}
use Rattle.std.specs.Vec.Iter.{into_iter_items}
use Rattle.meson_following.specs.CodeMakers.{maker_view}
use Rattle.meson_following.specs.Makers.{unsure}
use Rattle.meson_following.proofs.makers.unsure_all.Given as goal

abbrev pub invariant-loop-maker : goal.invariant-loop-maker
invariant-loop-maker l = record {
  joined : l.fn.makers.items ≡ l.yielded ++ into_iter_items l.maker-iterator;
  kept : map maker_view l.all.items ≡ map unsure (map maker_view l.yielded);
}
