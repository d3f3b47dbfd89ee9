use Rattle.meson_sources.proofs.laws.extra_is_removed.Goals as goal
use Rattle.meson_sources.proofs.SourcesGone.{extra-is-removed}

pub returns : goal.returns
returns c = extra-is-removed
