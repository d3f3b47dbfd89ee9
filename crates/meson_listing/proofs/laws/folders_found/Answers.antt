use Rattle.meson_listing.proofs.FolderNames.{folders_found}
use Rattle.meson_listing.proofs.laws.folders_found.Goals as goal

pub returns : goal.returns
returns c = folders_found
