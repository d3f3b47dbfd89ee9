use Rattle.meson_meaning.proofs.RunsMake.{calls_make_targets}
use Rattle.meson_meaning.proofs.laws.made.Goals as goal

pub returns : goal.returns
returns c = calls_make_targets
