use Rattle.meson_layout.proofs.FileSets.{files-law}
use Rattle.meson_layout.proofs.laws.sets_of_files.Goals as goal

pub returns : goal.returns
returns c = files-law
