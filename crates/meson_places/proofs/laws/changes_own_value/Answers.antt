use Rattle.meson_places.proofs.OwnValues.{changes_own_value}
use Rattle.meson_places.proofs.laws.changes_own_value.Goals as goal

pub returns : goal.returns
returns c = changes_own_value
