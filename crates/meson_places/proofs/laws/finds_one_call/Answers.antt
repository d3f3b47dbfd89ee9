use Rattle.meson_places.proofs.Found.{finds_one_call}
use Rattle.meson_places.proofs.laws.finds_one_call.Goals as goal

pub returns : goal.returns
returns c = finds_one_call
