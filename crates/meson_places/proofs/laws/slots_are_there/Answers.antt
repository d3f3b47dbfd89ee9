use Rattle.meson_places.proofs.SlotsThere.{slots_are_there}
use Rattle.meson_places.proofs.laws.slots_are_there.Goals as goal

pub returns : goal.returns
returns c = slots_are_there
