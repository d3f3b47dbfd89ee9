use Rattle.std.proofs.Common.{◌≡◌, drop, map}
use Rattle.meson_following.specs.CodeMakers.{maker_view}
use Rattle.meson_following.specs.Makers.{is_among}
use Rattle.meson_following.proofs.makers.is_among.Given as goal

abbrev pub invariant-loop-other : goal.invariant-loop-other
invariant-loop-other l = is_among (map maker_view (drop l.other-index l.makers)) (maker_view l.maker) ≡ is_among (map maker_view l.makers) (maker_view l.maker)
