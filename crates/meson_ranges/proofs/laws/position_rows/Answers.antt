use Rattle.std.proofs.Common.{refl}
use Rattle.meson_ranges.proofs.laws.position_rows.Goals as goal

pub returns : goal.returns
returns c = (refl, refl, refl, refl, refl, refl, refl, refl, refl, refl, refl, refl, refl, refl, refl, refl, refl, refl)
