use Rattle.meson_places.proofs.AddedValues.{adds_to_one_list}
use Rattle.meson_places.proofs.laws.adds_to_one_list.Goals as goal

pub returns : goal.returns
returns c = adds_to_one_list
