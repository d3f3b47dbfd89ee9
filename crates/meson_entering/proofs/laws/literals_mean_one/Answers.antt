use Rattle.meson_entering.proofs.Lawful.{literals_mean_one}
use Rattle.meson_entering.proofs.laws.literals_mean_one.Goals as goal

pub returns : goal.returns
returns c = literals_mean_one
