use Rattle.meson_inventory.proofs.NotEntered.{not_entered_means_unknown}
use Rattle.meson_inventory.proofs.laws.not_entered_means_unknown.Goals as goal

pub returns : goal.returns
returns c = not_entered_means_unknown
