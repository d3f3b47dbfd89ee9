use Rattle.meson_places.proofs.SaidLeft.{replaces_what_is_said}
use Rattle.meson_places.proofs.laws.replaces_what_is_said.Goals as goal

pub returns : goal.returns
returns c = replaces_what_is_said
