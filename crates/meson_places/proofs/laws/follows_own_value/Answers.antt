use Rattle.meson_places.proofs.OwnOperands.{follows_own_value}
use Rattle.meson_places.proofs.laws.follows_own_value.Goals as goal

pub returns : goal.returns
returns c = follows_own_value
