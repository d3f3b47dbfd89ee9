use Rattle.std.proofs.Common.{◌≡◌, take}
use Rattle.std.specs.Prelude.{false}
use Rattle.meson_places.specs.Uses.{is_formatted}
use Rattle.meson_places.proofs.uses.is_formatted.Given as goal

abbrev pub invariant-loop-i : goal.invariant-loop-i
invariant-loop-i l = is_formatted l.name (take l.i l.files) ≡ false
