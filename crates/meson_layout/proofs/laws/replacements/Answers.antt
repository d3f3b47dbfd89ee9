use Rattle.meson_layout.proofs.ValueLaws.{replacement-law}
use Rattle.meson_layout.proofs.laws.replacements.Goals as goal

pub returns : goal.returns
returns c = replacement-law
