-- The result of steps that are meant on a project, or why they are refused.
use Rattle.std.specs.Prelude.{◌≡◌, List, Result, Ok, Err}
use Rattle.meson_calls.specs.declared.refusal.Refusal.{Refusal}
use Rattle.meson_calls.specs.declared.refusal.Refusal.TheVariants.{TooDeep, TooLarge}
use Rattle.meson_calls.specs.Loading.{Loaded, IsProject}
use Rattle.meson_steps.specs.declared.work.Work.{Work}
use Rattle.meson_steps.specs.ResultLimits.{AreShallow, AreSmall, plain_trees}
use Rattle.meson_steps.specs.Steps.{Step}
use Rattle.meson_steps.specs.Working.{IsMade, so_far}

-- what is meant: steps, or why it is refused
abbrev pub Meaning : Type 0
Meaning = Result (List Step) Refusal

-- The steps that are meant make this of the project, and no limit is passed.
pub record IsDone (old : Loaded) (meant : Meaning) (w : Work) : Type 0 where
  pub steps : List Step
  pub is : meant ≡ Ok steps
  pub made : IsMade old steps w
  pub shallow : AreShallow (plain_trees (so_far w))
  pub small : AreSmall w.files
  pub project : IsProject (so_far w)

-- No steps are meant, or the result of those that are passes a limit.
pub data MayNotBeDone (old : Loaded) (meant : Meaning) : Refusal → Type 0 where
  unmeant : (e : Refusal) → meant ≡ Err e → MayNotBeDone old meant e
  deep : (steps : List Step) (w : Work) → meant ≡ Ok steps → IsMade old steps w → (AreShallow (plain_trees (so_far w)) → ⊥) → MayNotBeDone old meant TooDeep
  large : (steps : List Step) (w : Work) → meant ≡ Ok steps → IsMade old steps w → AreShallow (plain_trees (so_far w)) → (AreSmall w.files → ⊥)
      → MayNotBeDone old meant TooLarge
