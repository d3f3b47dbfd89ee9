-- What the steps of a task leave.
use Rattle.std.specs.Prelude.{List}
use Rattle.meson_syntax.specs.Tree.{Plain}
use Rattle.meson_calls.specs.declared.call.CallRef.{CallRef}
use Rattle.meson_steps.specs.Steps.{Step}
use Rattle.meson_steps.specs.ListSteps.{AreDoable}
use Rattle.meson_keywords.specs.Changing.{CallStands}
use Rattle.meson_keywords.specs.TaskSteps.{trees_after}

-- What a task means may be done where the call is, and leaves the call there.
pub record LeavesCall (c : CallRef) (steps : List Step) (trees : List Plain) : Type 0 where
  pub doable : AreDoable steps trees
  pub stands : CallStands c (trees_after steps trees)
