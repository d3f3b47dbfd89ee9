use Rattle.meson_sources.proofs.laws.sources_are_sorted.Goals as goal
use Rattle.meson_sources.proofs.SourcesSorted.{sources-are-sorted}

pub returns : goal.returns
returns c = sources-are-sorted
