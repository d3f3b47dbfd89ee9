use Rattle.meson_sums.proofs.Telling.{sums-tell}
use Rattle.meson_sums.proofs.laws.sums_tell.Goals as goal

pub returns : goal.returns
returns c = sums-tell
