use Rattle.meson_places.proofs.AllMade.{replaces_in_each}
use Rattle.meson_places.proofs.laws.replaces_in_each.Goals as goal

pub returns : goal.returns
returns c = replaces_in_each
