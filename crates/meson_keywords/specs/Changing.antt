-- The call whose arguments a command changes, between two of its tasks.
use Rattle.std.specs.Prelude.{◌≡◌, ℕ, ◌≤◌, List, [], ◌++◌, Some, Result, Ok}
use Rattle.meson_syntax.specs.declared.operator.Bracket.TheVariants as bracket
use Rattle.meson_syntax.specs.Grammar.{file_depth, listing_depth}
use Rattle.meson_syntax.specs.Paths.{ListAt, list_at, nth}
use Rattle.meson_syntax.specs.Tree.{Nowhere, Plain, Listing}
use Rattle.meson_calls.specs.declared.call.CallRef.{CallRef}
use Rattle.meson_calls.specs.declared.refusal.Refusal.{Refusal}
use Rattle.meson_keywords.specs.declared.tasks.Task as code
use Rattle.meson_steps.specs.declared.work.Work.{Work}
use Rattle.meson_steps.specs.ListSteps.{wide_depth}
use Rattle.meson_calls.specs.Loading.{Loaded}
use Rattle.meson_steps.specs.ResultLimits.{plain_trees}
use Rattle.meson_calls.specs.Finding.{the_call}
use Rattle.meson_steps.specs.Steps.{Step}
use Rattle.meson_keywords.specs.Tasking.{Asked, MayBeWritten, TaskIs, asked_tasks}
use Rattle.meson_keywords.specs.Tasks.{Task}
use Rattle.meson_keywords.specs.TaskSteps.{call_changed, elements_in, task_steps}
use Rattle.meson_steps.specs.Working.{Reached, so_far}
use Rattle.meson_calls.specs.Project.{Project}
use Rattle.meson_calls.specs.declared.call.Role.{Role}
use Rattle.meson_splice.specs.Patch.{then_ok}
use Rattle.meson_calls.specs.declared.call.CallName.{CallName}

-- The call is there, in round brackets. Whatever is in its place, as long as it nests no deeper than this number, leaves the file within the limit between two
-- steps. An argument that is an array of elements has that depth. So each task may insert one, and no task makes room for a deeper one.
pub record CallStands (c : CallRef) (trees : List Plain) : Type 0 where
  pub tree : Plain
  pub is_tree : nth trees c.file ≡ Some tree
  pub place : ListAt Nowhere
  pub is_place : list_at tree c.path.steps ≡ Some place
  pub is_round : place.bracket ≡ bracket.Round
  pub limit : ℕ
  pub array_fits : 2 ≤ limit
  pub call_fits : listing_depth place.list ≤ limit
  pub file_fits : (l : Listing Nowhere) → listing_depth l ≤ limit → file_depth (place.back l) ≤ wide_depth

-- ---- the answers of the work

-- These steps are done, and the call is there.
pub record Between (old : Loaded) (c : CallRef) (before : List Step) (w : Work) : Type 0 where
  pub reached : Reached old before [] w
  pub stands : CallStands c (plain_trees (so_far w))

abbrev pub steps_of_task : CallRef → Task → Work → Result (List Step) Refusal
steps_of_task c t w = task_steps t c (elements_in c (plain_trees (so_far w)))

-- The next task may be done.
pub record IsNextTask (old : Loaded) (c : CallRef) (task : code.Task) (w : Work) : Type 0 where
  pub before : List Step
  pub between : Between old c before w
  pub meant : Task
  pub is : TaskIs task meant
  pub may : MayBeWritten meant

-- The steps of a task are done after those before.
pub record TaskDone (old : Loaded) (c : CallRef) (before : List Step) (t : Task) (was now : Work) : Type 0 where
  pub steps : List Step
  pub are : steps_of_task c t was ≡ Ok steps
  pub between : Between old c (before ++ steps) now

-- ---- a command

abbrev pub request_steps : {S : Type 0} → Project S → Role × CallName × Asked → Result (List Step) Refusal
request_steps p r = then_ok (the_call p r.0 r.1) (call_changed p (asked_tasks r.0 r.2))
