use Rattle.meson_code.proofs.AnchorsFound.{none_overlooked}
use Rattle.meson_code.proofs.laws.none_overlooked.Goals as goal

pub returns : goal.returns
returns c = none_overlooked
