use Rattle.meson_places.proofs.OwnAssigned.{changes_one_value}
use Rattle.meson_places.proofs.laws.changes_one_value.Goals as goal

pub returns : goal.returns
returns c = changes_one_value
