use Rattle.meson_places.proofs.OwnValues.{read_by_nobody_else}
use Rattle.meson_places.proofs.laws.read_by_nobody_else.Goals as goal

pub returns : goal.returns
returns c = read_by_nobody_else
