use Rattle.meson_layout.proofs.LocalLaws.{local-law}
use Rattle.meson_layout.proofs.laws.lists_alone.Goals as goal

pub returns : goal.returns
returns c = local-law
