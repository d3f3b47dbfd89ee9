use Rattle.meson_warnings.proofs.Told.{unset_are_unset}
use Rattle.meson_warnings.proofs.laws.unset_are_unset.Goals as goal

pub returns : goal.returns
returns c = unset_are_unset
