use Rattle.meson_keywords.proofs.Words.{arith, common_steps}
use Rattle.meson_keywords.proofs.keyword_steps.put_all_behind.Goals as goal

pub loop-i-preserved : goal.loop-i-preserved
loop-i-preserved c = grind (arith, common_steps)

pub returns-clause-done : goal.returns-clause-done
returns-clause-done c = grind (arith, common_steps)
