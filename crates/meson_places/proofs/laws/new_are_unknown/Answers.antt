use Rattle.meson_places.proofs.AddedValues.{new_are_unknown}
use Rattle.meson_places.proofs.laws.new_are_unknown.Goals as goal

pub returns : goal.returns
returns c = new_are_unknown
