use Rattle.std.proofs.Common.{◌≡◌, ◌++◌, map}
use Rattle.std.specs.Vec.Iter.{into_iter_items}
use Rattle.meson_following.specs.CodeMakers.{maker_view}
use Rattle.meson_following.specs.Makers.{renewed}
use Rattle.meson_following.proofs.makers.renew.Given as goal

abbrev pub invariant-loop-maker : goal.invariant-loop-maker
invariant-loop-maker l = record {
  joined : l.fn.makers.items ≡ l.yielded ++ into_iter_items l.maker-iterator;
  kept : map maker_view l.all.items ≡ map (renewed (maker_view l.new)) (map maker_view l.yielded);
}
