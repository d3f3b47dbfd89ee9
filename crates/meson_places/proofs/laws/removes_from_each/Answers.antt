use Rattle.meson_places.proofs.AllMade.{removes_from_each}
use Rattle.meson_places.proofs.laws.removes_from_each.Goals as goal

pub returns : goal.returns
returns c = removes_from_each
