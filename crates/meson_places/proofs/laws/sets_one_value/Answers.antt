use Rattle.meson_places.proofs.SetValues.{sets_one_value}
use Rattle.meson_places.proofs.laws.sets_one_value.Goals as goal

pub returns : goal.returns
returns c = sets_one_value
