use Rattle.meson_script.proofs.RunFacts.{runs-patch}
use Rattle.meson_script.proofs.laws.runs_patch.Goals as goal

pub returns : goal.returns
returns c = runs-patch
