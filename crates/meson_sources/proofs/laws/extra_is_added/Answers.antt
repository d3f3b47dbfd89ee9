use Rattle.meson_sources.proofs.laws.extra_is_added.Goals as goal
use Rattle.meson_sources.proofs.ExtraAdded.{extra-is-added}

pub returns : goal.returns
returns c = extra-is-added
