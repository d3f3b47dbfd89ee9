use Rattle.meson_explaining.proofs.MeantNames.{meant_names_are_refused}
use Rattle.meson_explaining.proofs.laws.meant_names_are_refused.Goals as goal

pub returns : goal.returns
returns c = meant_names_are_refused
