use Rattle.std.proofs.Common.{◌≡◌, take}
use Rattle.std.specs.Prelude.{false}
use Rattle.meson_targets.specs.inside.TargetViews.{place_view}
use Rattle.meson_code.specs.Unused.{is_any_in}
use Rattle.meson_code.proofs.unused.is_any_in.Given as goal

abbrev pub invariant-loop-i : goal.invariant-loop-i
invariant-loop-i l = is_any_in (place_view l.statement) (take l.i l.places) ≡ false
