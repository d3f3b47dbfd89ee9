use Rattle.std.proofs.Common.{◌≡◌, drop}
use Rattle.meson_places.specs.Several.{any_code}
use Rattle.meson_places.proofs.several.any_code.Given as goal

abbrev pub invariant-loop-i : goal.invariant-loop-i
invariant-loop-i l = any_code (drop l.i l.values) ≡ any_code l.values
