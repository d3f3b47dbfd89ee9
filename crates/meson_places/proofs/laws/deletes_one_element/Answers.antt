use Rattle.meson_places.proofs.SetValues.{deletes_one_element}
use Rattle.meson_places.proofs.laws.deletes_one_element.Goals as goal

pub returns : goal.returns
returns c = deletes_one_element
