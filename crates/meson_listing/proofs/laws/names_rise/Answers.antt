use Rattle.meson_listing.proofs.Rising.{names_rise}
use Rattle.meson_listing.proofs.laws.names_rise.Goals as goal

pub returns : goal.returns
returns c = names_rise
