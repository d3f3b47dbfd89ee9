use Rattle.meson_sources.proofs.laws.all_sources_grow.Goals as goal
use Rattle.meson_sources.proofs.AllSources.{all-sources-grow}

pub returns : goal.returns
returns c = all-sources-grow
