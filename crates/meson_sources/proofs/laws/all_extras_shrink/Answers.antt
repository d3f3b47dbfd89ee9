use Rattle.meson_sources.proofs.laws.all_extras_shrink.Goals as goal
use Rattle.meson_sources.proofs.ShrunkFiles.{all-extras-shrink}

pub returns : goal.returns
returns c = all-extras-shrink
