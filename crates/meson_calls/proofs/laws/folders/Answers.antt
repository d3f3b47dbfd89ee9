use Rattle.meson_calls.proofs.PlainFolders.{plain_folders_stay}
use Rattle.meson_calls.proofs.laws.folders.Goals as goal

pub returns-clause-plain : goal.returns-clause-plain
returns-clause-plain c = plain_folders_stay
