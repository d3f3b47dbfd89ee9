use Rattle.meson_ranges.proofs.FilesMade.{file_edits_make}
use Rattle.meson_ranges.proofs.laws.file_edits_make.Goals as goal

pub returns : goal.returns
returns c = file_edits_make
