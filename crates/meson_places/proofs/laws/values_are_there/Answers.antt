use Rattle.meson_places.proofs.ValuesThere.{values_are_there}
use Rattle.meson_places.proofs.laws.values_are_there.Goals as goal

pub returns : goal.returns
returns c = values_are_there
