use Rattle.meson_following.proofs.LeftOut.{left_out_seen}
use Rattle.meson_following.proofs.laws.limits.Goals as goal

pub returns : goal.returns
returns c = left_out_seen
