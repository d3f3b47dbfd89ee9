-- Tasks of which some are done: from the start, over each task, to the end.
use Rattle.meson_keywords.proofs.Words.{◌≡◌, List, [], ◌∷◌, ◌++◌, refl, sym, ap, ◌∙◌, Result, Ok, Err, append-nil, then_ok, Plain, Loaded, CallRef, Refusal}
use Rattle.meson_keywords.proofs.Words.{MayNotBeDone, unmeant, plain_trees, Step, IsFresh, so_far, Work, first_reached, Between, CallStands, IsNextTask}
use Rattle.meson_keywords.proofs.Words.{TaskDone, steps_of_task, elements_in, task_steps, tasks_steps, trees_after, MayBeWritten, TaskIs, Task, TasksAre}
use Rattle.std.proofs.lemmas.List.{append_assoc}
use Rattle.meson_keywords.specs.declared.tasks.Task as code
use Rattle.meson_steps.specs.ListSteps as doable
use Rattle.meson_keywords.specs.inside.Tasking.{none, one}
use Rattle.meson_keywords.proofs.TasksGo.{trees_done}

-- These tasks of the code are left, behind steps that are done.
pub record TasksLeft (old : Loaded) (c : CallRef) (whole : Result (List Step) Refusal) (left : List code.Task) (w : Work) : Type 0 where
  pub before : List Step
  pub between : Between old c before w
  pub rest : List Task
  pub are : TasksAre left rest
  pub joined : whole ≡ then_ok (tasks_steps c rest (plain_trees (so_far w))) (λ later. Ok (before ++ later))

-- ---- the start

all_left : (r : Result (List Step) Refusal) → r ≡ then_ok r (λ later. Ok ([] ++ later))
all_left (Ok steps) = refl
all_left (Err e) = refl

pub tasks_first : (w : Work) → IsFresh w → (c : CallRef) → CallStands c (plain_trees (so_far w)) → (cs : List code.Task) (ts : List Task) → TasksAre cs ts
    → TasksLeft (so_far w) c (tasks_steps c ts (plain_trees (so_far w))) cs w
tasks_first w fresh c stands cs ts are =
    let trees = plain_trees (so_far w) in
    record {
      before = [];
      between = record { reached = first_reached w fresh [] (doable.none trees); stands = stands };
      rest = ts;
      are = are;
      joined = all_left (tasks_steps c ts trees);
    }

-- ---- a task

record FirstTask (task : code.Task) (left : List code.Task) (ts : List Task) : Type 0 where
  first : Task
  more : List Task
  are_both : ts ≡ first ∷ more
  is : TaskIs task first
  may : MayBeWritten first
  are : TasksAre left more

first_task : (task : code.Task) (left : List code.Task) (ts : List Task) → TasksAre (task ∷ left) ts → FirstTask task left ts
first_task task left ts (one c t cs us is may are) = record { first = t; more = us; are_both = refl; is = is; may = may; are = are }

no_task : (ts : List Task) → TasksAre [] ts → ts ≡ []
no_task ts none = refl

-- what is left behind the steps of the first
behind_first : (before steps : List Step) (r : Result (List Step) Refusal) → then_ok (then_ok r (λ later. Ok (steps ++ later))) (λ later. Ok (before ++ later)) ≡ then_ok r (λ later. Ok ((before ++ steps) ++ later))
behind_first before steps (Ok later) = ap Ok (sym (append_assoc before steps later))
behind_first before steps (Err e) = refl

module _ (old : Loaded) (c : CallRef) (whole : Result (List Step) Refusal) (task : code.Task) (left : List code.Task) (w : Work) (u : TasksLeft old c whole (task ∷ left) w) where
  abbrev next : FirstTask task left u.rest
  next = first_task task left u.rest u.are

  abbrev here : List Plain
  here = plain_trees (so_far w)

  abbrev behind : List Step → Result (List Step) Refusal → Result (List Step) Refusal
  behind steps r = then_ok r (λ later. Ok (steps ++ later))

  pub next_task : IsNextTask old c task w
  next_task = record { before = u.before; between = u.between; meant = next.first; is = next.is; may = next.may }

  whole_is : whole ≡ behind u.before (then_ok (task_steps next.first c (elements_in c here)) (λ steps. behind steps (tasks_steps c next.more (trees_after steps here))))
  whole_is = u.joined ∙ ap (λ ts. behind u.before (tasks_steps c ts here)) next.are_both

  by_first : (r : Result (List Step) Refusal) → task_steps next.first c (elements_in c here) ≡ r → whole ≡ behind u.before (then_ok r (λ steps. behind steps (tasks_steps c next.more (trees_after steps here))))
  by_first r is = whole_is ∙ ap (λ o. behind u.before (then_ok o (λ steps. behind steps (tasks_steps c next.more (trees_after steps here))))) is

  pub tasks_more : (new : Work) → ((before : List Step) (t : Task) → Between old c before w → TaskIs task t → MayBeWritten t → TaskDone old c before t w new) → TasksLeft old c whole left new
  tasks_more new done =
      let d = done u.before next.first u.between next.is next.may in
      record {
        before = u.before ++ d.steps;
        between = d.between;
        rest = next.more;
        are = next.are;
        joined =
            by_first (Ok d.steps) d.are
            ∙ ap (λ ts. behind u.before (behind d.steps (tasks_steps c next.more ts))) (trees_done old c w u.before u.between next.first next.may d.steps d.are new d.between.reached)
            ∙ behind_first u.before d.steps (tasks_steps c next.more (plain_trees (so_far new)));
      }

  pub task_refused : (e : Refusal) → ((before : List Step) (t : Task) → Between old c before w → TaskIs task t → MayBeWritten t → steps_of_task c t w ≡ Err e) → MayNotBeDone old whole e
  task_refused e refused = unmeant e (by_first (Err e) (refused u.before next.first u.between next.is next.may))

-- ---- the end

pub whole_done : (old : Loaded) (c : CallRef) (whole : Result (List Step) Refusal) (w : Work) (u : TasksLeft old c whole [] w) → whole ≡ Ok u.before
whole_done old c whole w u =
    u.joined ∙ ap (λ ts. then_ok (tasks_steps c ts (plain_trees (so_far w))) (λ later. Ok (u.before ++ later))) (no_task u.rest u.are) ∙ ap Ok (append-nil u.before)
