use Rattle.meson_warnings.proofs.Told.{sharers_read}
use Rattle.meson_warnings.proofs.laws.sharers_read.Goals as goal

pub returns : goal.returns
returns c = sharers_read
