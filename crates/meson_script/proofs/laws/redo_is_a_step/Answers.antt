use Rattle.meson_script.proofs.StackFacts.{redo-is-a-step, nothing-is-redone}
use Rattle.meson_script.proofs.laws.redo_is_a_step.Goals as goal

pub returns-clause-step : goal.returns-clause-step
returns-clause-step c = redo-is-a-step

pub returns-clause-none : goal.returns-clause-none
returns-clause-none c = nothing-is-redone
