use Rattle.meson_layout.proofs.InsertionLaws.{insertion-law}
use Rattle.meson_layout.proofs.laws.insertions.Goals as goal

pub returns : goal.returns
returns c = insertion-law
