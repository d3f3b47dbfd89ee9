use Rattle.meson_keywords.proofs.Words.{arith, common_steps}
use Rattle.meson_keywords.proofs.keyword_steps.remove_all.Goals as goal

pub loop-i-preserved : goal.loop-i-preserved
loop-i-preserved c = grind (arith, common_steps)

pub returns : goal.returns
returns c = grind (arith, common_steps)
