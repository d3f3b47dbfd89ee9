use Rattle.meson_places.proofs.SetValues.{keeps_kinds}
use Rattle.meson_places.proofs.laws.keeps_kind.Goals as goal

pub returns : goal.returns
returns c = keeps_kinds
