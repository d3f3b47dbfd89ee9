use Rattle.meson_inventory.proofs.NamedSearched.{named_are_searched}
use Rattle.meson_inventory.proofs.laws.named_are_searched.Goals as goal

pub returns : goal.returns
returns c = named_are_searched
