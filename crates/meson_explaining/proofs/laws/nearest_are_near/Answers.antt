use Rattle.meson_explaining.proofs.NearCalls.{nearest_are_near}
use Rattle.meson_explaining.proofs.laws.nearest_are_near.Goals as goal

pub returns : goal.returns
returns c = nearest_are_near
