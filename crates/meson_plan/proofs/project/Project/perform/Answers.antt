use Rattle.meson_plan.proofs.SplicesDone.{performs-patch, performs-text}
use Rattle.meson_plan.proofs.project.Project.perform.Goals as goal

pub returns-clause-patched : goal.returns-clause-patched
returns-clause-patched c = performs-patch _ _ _ _ c.in_ok-done.ensures.done

pub returns-clause-texts : goal.returns-clause-texts
returns-clause-texts c = performs-text _ _ _ _ c.in_ok-done.ensures.done
