use Rattle.meson_sources.proofs.laws.sources_are_added.Goals as goal
use Rattle.meson_sources.proofs.SourcesAdded.{sources-are-added}

pub returns : goal.returns
returns c = sources-are-added
