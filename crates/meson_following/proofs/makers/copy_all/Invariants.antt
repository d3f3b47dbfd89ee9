use Rattle.std.proofs.Common.{◌≡◌, ◌++◌, map, drop}
use Rattle.meson_following.specs.CodeMakers.{maker_view}
use Rattle.meson_following.proofs.makers.copy_all.Given as goal

abbrev pub invariant-loop-maker : goal.invariant-loop-maker
invariant-loop-maker l = map maker_view l.all.items ++ map maker_view (drop l.maker-index l.makers) ≡ map maker_view l.makers
