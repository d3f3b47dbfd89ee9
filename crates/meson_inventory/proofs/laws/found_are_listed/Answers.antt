use Rattle.meson_inventory.proofs.FoundListed.{found_are_listed}
use Rattle.meson_inventory.proofs.laws.found_are_listed.Goals as goal

pub returns : goal.returns
returns c = found_are_listed c.parts_are_all.ensures
