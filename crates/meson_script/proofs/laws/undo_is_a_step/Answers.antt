use Rattle.meson_script.proofs.StackFacts.{undo-is-a-step, nothing-is-undone}
use Rattle.meson_script.proofs.laws.undo_is_a_step.Goals as goal

pub returns-clause-step : goal.returns-clause-step
returns-clause-step c = undo-is-a-step

pub returns-clause-none : goal.returns-clause-none
returns-clause-none c = nothing-is-undone
