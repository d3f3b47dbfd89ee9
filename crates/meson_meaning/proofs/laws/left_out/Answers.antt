use Rattle.meson_meaning.proofs.OnlyNames.{only_names_go}
use Rattle.meson_meaning.proofs.laws.left_out.Goals as goal

pub returns : goal.returns
returns c = only_names_go
