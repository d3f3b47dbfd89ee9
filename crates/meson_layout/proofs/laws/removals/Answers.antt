use Rattle.meson_layout.proofs.RemovalLaws.{removal-law}
use Rattle.meson_layout.proofs.laws.removals.Goals as goal

pub returns : goal.returns
returns c = removal-law
