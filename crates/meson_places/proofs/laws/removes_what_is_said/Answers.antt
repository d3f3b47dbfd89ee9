use Rattle.meson_places.proofs.SaidLeft.{removes_what_is_said}
use Rattle.meson_places.proofs.laws.removes_what_is_said.Goals as goal

pub returns : goal.returns
returns c = removes_what_is_said
