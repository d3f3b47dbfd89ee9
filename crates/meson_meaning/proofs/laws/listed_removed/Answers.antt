use Rattle.meson_meaning.proofs.ListedGone.{only_listed_go}
use Rattle.meson_meaning.proofs.laws.listed_removed.Goals as goal

pub returns : goal.returns
returns c = only_listed_go
