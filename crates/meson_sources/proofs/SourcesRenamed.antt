-- The sources of one name have another one afterwards, each in its place, and nothing else has changed.
use Rattle.meson_sources.specs.Effects.{SourcesAreRenamed}
use Rattle.meson_sources.proofs.met.Targets.{files_stand}
use Rattle.meson_sources.proofs.renamed.Renamings.{name_changes}

pub sources-are-renamed : SourcesAreRenamed
sources-are-renamed l is target c found old new steps after made done = name_changes l is.parsed c (files_stand l is.parsed target c found).sources old new steps made after done
