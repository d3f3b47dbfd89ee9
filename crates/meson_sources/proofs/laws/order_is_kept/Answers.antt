use Rattle.meson_sources.proofs.laws.order_is_kept.Goals as goal
use Rattle.meson_sources.proofs.SourcesSorted.{order-is-kept}

pub returns : goal.returns
returns c = order-is-kept
