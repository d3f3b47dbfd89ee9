use Rattle.meson_sources.proofs.laws.sources_are_renamed.Goals as goal
use Rattle.meson_sources.proofs.SourcesRenamed.{sources-are-renamed}

pub returns : goal.returns
returns c = sources-are-renamed
