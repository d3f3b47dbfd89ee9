use Rattle.meson_layout.proofs.LineLaws.{lines-law}
use Rattle.meson_layout.proofs.laws.inserted_lines.Goals as goal

pub returns : goal.returns
returns c = lines-law
