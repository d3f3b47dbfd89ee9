-- The steps of the code compared with those that are meant.
use Rattle.std.specs.Prelude.{◌≡◌, List, ◌++◌, map, Some, Result, Ok}
use Rattle.meson_calls.specs.declared.refusal.Refusal.{Refusal}
use Rattle.meson_steps.specs.declared.step.ListStep.{ListStep}
use Rattle.meson_steps.specs.ListSteps.{AreBare, bare}
use Rattle.meson_steps.specs.Steps.{Step}

-- the code's steps are those that are meant
pub record AreMeant (meant : Result (List Step) Refusal) (code : List ListStep) : Type 0 where
  pub steps : List Step
  pub is : meant ≡ Ok steps
  pub bare : AreBare steps code

-- the code's steps are those before, and then those that are meant
pub record AreBehind (meant : Result (List Step) Refusal) (before after : List ListStep) : Type 0 where
  pub steps : List Step
  pub is : meant ≡ Ok steps
  pub bare : map Some after ≡ map Some before ++ map bare steps
