use Rattle.meson_sources.proofs.laws.all_sources_shrink.Goals as goal
use Rattle.meson_sources.proofs.ShrunkFiles.{all-sources-shrink}

pub returns : goal.returns
returns c = all-sources-shrink
