use Rattle.meson_inventory.proofs.NamedSearched.{one_is_named}
use Rattle.meson_inventory.proofs.laws.one_is_named.Goals as goal

pub returns : goal.returns
returns c = one_is_named
