use Rattle.meson_layout.proofs.ValueLaws.{first-law}
use Rattle.meson_layout.proofs.laws.first_element.Goals as goal

pub returns : goal.returns
returns c = first-law
