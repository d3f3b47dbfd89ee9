use Rattle.meson_meaning.proofs.ToldFolders.{told_folders_stay}
use Rattle.meson_meaning.proofs.laws.told_folders.Goals as goal

pub returns : goal.returns
returns c = told_folders_stay
