use Rattle.meson_sources.proofs.laws.items_are_met_once.Goals as goal
use Rattle.meson_sources.proofs.met.Targets.{items-are-met-once}

pub returns : goal.returns
returns c = items-are-met-once
