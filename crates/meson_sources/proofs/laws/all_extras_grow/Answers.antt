use Rattle.meson_sources.proofs.laws.all_extras_grow.Goals as goal
use Rattle.meson_sources.proofs.AllExtras.{all-extras-grow}

pub returns : goal.returns
returns c = all-extras-grow
