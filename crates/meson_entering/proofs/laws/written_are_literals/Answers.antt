use Rattle.meson_entering.proofs.Lawful.{written_are_literals}
use Rattle.meson_entering.proofs.laws.written_are_literals.Goals as goal

pub returns : goal.returns
returns c = written_are_literals
