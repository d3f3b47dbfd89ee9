use Rattle.meson_sources.proofs.laws.sources_are_removed.Goals as goal
use Rattle.meson_sources.proofs.SourcesGone.{sources-are-removed}

pub returns : goal.returns
returns c = sources-are-removed
