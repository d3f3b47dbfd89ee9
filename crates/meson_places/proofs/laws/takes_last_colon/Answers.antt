use Rattle.meson_places.proofs.LastKeys.{takes_last_colon}
use Rattle.meson_places.proofs.laws.takes_last_colon.Goals as goal

pub returns : goal.returns
returns c = takes_last_colon
