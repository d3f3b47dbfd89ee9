-- A task that is done on a call that stands: it may be done, leaves the call standing, and leaves of it what it should.
use Rattle.meson_keywords.proofs.Words.{◌≡◌, List, sym, subst₂, All, Ok, Nowhere, Plain, Argument, CallRef, MayStandBetween, Step, CallStands, TaskLeaves}
use Rattle.meson_keywords.proofs.Words.{elements_in, task_steps, trees_after, Task, LeavesCall}
use Rattle.meson_keywords.proofs.CallEdits.{LeavesAs, elements_are, xs}

pub record Does (t : Task) (c : CallRef) (trees : List Plain) (steps : List Step) : Type 0 where
  pub call : LeavesCall c steps trees
  pub leaves : TaskLeaves t (elements_in c trees) (elements_in c (trees_after steps trees))

abbrev pub TaskDoes : Task → Type 0
TaskDoes t = (c : CallRef) (trees : List Plain) → All MayStandBetween trees → CallStands c trees → (steps : List Step) → task_steps t c (elements_in c trees) ≡ Ok steps → Does t c trees steps

pub does : (t : Task) (c : CallRef) (trees : List Plain) (all : All MayStandBetween trees) (s : CallStands c trees) (steps : List Step) (ys : List (Argument Nowhere)) → LeavesAs c steps trees ys → TaskLeaves t (xs c trees all s) ys
    → Does t c trees steps
does t c trees all s steps ys l leaves = record { call = l.call; leaves = subst₂ (TaskLeaves t) (sym (elements_are c trees all s)) (sym l.are) leaves }
