use Rattle.meson_places.proofs.BetweenLeft.{puts_behind_first}
use Rattle.meson_places.proofs.laws.puts_behind_first.Goals as goal

pub returns : goal.returns
returns c = puts_behind_first
