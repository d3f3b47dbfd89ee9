use Rattle.meson_script.proofs.RunFacts.{runs-text}
use Rattle.meson_script.proofs.laws.runs_text.Goals as goal

pub returns : goal.returns
returns c = runs-text
