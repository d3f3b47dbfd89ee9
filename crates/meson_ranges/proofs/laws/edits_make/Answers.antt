use Rattle.meson_ranges.proofs.Making.{edits_make}
use Rattle.meson_ranges.proofs.laws.edits_make.Goals as goal

pub returns : goal.returns
returns c = edits_make
