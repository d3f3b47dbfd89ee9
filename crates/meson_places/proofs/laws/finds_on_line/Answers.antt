use Rattle.meson_places.proofs.OnLines.{finds_on_line}
use Rattle.meson_places.proofs.laws.finds_on_line.Goals as goal

pub returns : goal.returns
returns c = finds_on_line
