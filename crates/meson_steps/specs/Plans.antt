-- A plan: the steps that a command means, as the code has them, which may be done one after another.
use Rattle.std.specs.Prelude.{◌≡◌, List, Result, Ok}
use Rattle.meson_calls.specs.declared.refusal.Refusal.{Refusal}
use Rattle.meson_steps.specs.declared.step.ListStep.{ListStep}
use Rattle.meson_steps.specs.ListSteps.{AreBare, AreDoable}
use Rattle.meson_calls.specs.Loading.{Loaded}
use Rattle.meson_steps.specs.ResultLimits.{plain_trees}
use Rattle.meson_steps.specs.Steps.{Step}

-- Steps of which the code's are the bare ones, and that may be done one after another.
pub record Doable (old : Loaded) (steps : List Step) (code : List ListStep) : Type 0 where
  pub bare : AreBare steps code
  pub doable : AreDoable steps (plain_trees old)

-- What is meant are these steps.
pub record ArePlanned (old : Loaded) (meant : Result (List Step) Refusal) (code : List ListStep) : Type 0 where
  pub steps : List Step
  pub are_planned : meant ≡ Ok steps
  pub are_doable : Doable old steps code
