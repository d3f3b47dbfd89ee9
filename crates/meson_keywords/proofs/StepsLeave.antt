-- The steps of tasks, one task after another, leave of the call what these tasks leave.
use Rattle.meson_keywords.proofs.Words.{◌≡◌, List, [], ◌∷◌, ◌++◌, refl, sym, ap, ◌∙◌, subst, All, Result, Ok, Err, AllByRecursion, then_ok, Plain, CallRef}
use Rattle.meson_keywords.proofs.Words.{Refusal, AreDoable, MayStandBetween, none, one, Step, CallStands, StepsLeave, TasksLeave, elements_in, task_steps}
use Rattle.meson_keywords.proofs.Words.{tasks_steps, trees_after, MayBeWritten, Task}
use Rattle.meson_keywords.specs.Effects as effects
use Rattle.meson_keywords.proofs.CallEdits.{after_one}
use Rattle.meson_keywords.proofs.TaskMay.{task_does}

-- ---- steps behind steps

stand_after : (steps : List Step) (trees : List Plain) → All MayStandBetween trees → AreDoable steps trees → All MayStandBetween (trees_after steps trees)
stand_after steps trees all (none now) = all
stand_after steps trees all (one st more now between writes is stand rest) =
    subst (All MayStandBetween) (sym (after_one st more trees between is rest)) (stand_after more between stand rest)

record Joined (here later : List Step) (trees : List Plain) : Type 0 where
  doable : AreDoable (here ++ later) trees
  after : trees_after (here ++ later) trees ≡ trees_after later (trees_after here trees)

joined : (here later : List Step) (trees : List Plain) → AreDoable here trees → AreDoable later (trees_after here trees) → Joined here later trees
joined here later trees (none now) rest = record { doable = rest; after = refl }
joined here later trees (one st more now between writes is stand first) rest =
    let on = after_one st more trees between is first in
    let j = joined more later between first (subst (AreDoable later) on rest) in
    record {
      doable = one st (more ++ later) trees between writes is stand j.doable;
      after = after_one st (more ++ later) trees between is j.doable ∙ j.after ∙ ap (trees_after later) (sym on);
    }

-- ---- tasks

record Leave (ts : List Task) (c : CallRef) (trees : List Plain) (steps : List Step) : Type 0 where
  doable : AreDoable steps trees
  leave : TasksLeave ts (elements_in c trees) (elements_in c (trees_after steps trees))

-- tasks that may be done wherever the call stands
abbrev LeaveAll : List Task → CallRef → Type 0
LeaveAll ts c = (trees : List Plain) → All MayStandBetween trees → CallStands c trees → (steps : List Step) → tasks_steps c ts trees ≡ Ok steps → Leave ts c trees steps

module _ (t : Task) (may : MayBeWritten t) (ts : List Task) (c : CallRef) (later_ones : LeaveAll ts c) (trees : List Plain) (all : All MayStandBetween trees) (s : CallStands c trees) (steps : List Step) where
  later_leave : (here : List Step) → task_steps t c (elements_in c trees) ≡ Ok here → (r : Result (List Step) Refusal) → tasks_steps c ts (trees_after here trees) ≡ r → then_ok r (λ later. Ok (here ++ later)) ≡ Ok steps
      → Leave (t ∷ ts) c trees steps
  later_leave here is (Err e) rest made = absurd cc
  later_leave here is (Ok later) rest made =
      let same : here ++ later ≡ steps = cc in
      let d = task_does t may c trees all s here is in
      let between = trees_after here trees in
      let l = later_ones between (stand_after here trees all d.call.doable) d.call.stands later rest in
      let j = joined here later trees d.call.doable l.doable in
      subst (Leave (t ∷ ts) c trees) same (record {
        doable = j.doable;
        leave = effects.one t ts (elements_in c trees) (elements_in c between) (elements_in c (trees_after (here ++ later) trees)) d.leaves
            (subst (TasksLeave ts (elements_in c between)) (ap (elements_in c) (sym j.after)) l.leave);
      })

  first_leaves : (r : Result (List Step) Refusal) → task_steps t c (elements_in c trees) ≡ r → then_ok r (λ here. then_ok (tasks_steps c ts (trees_after here trees)) (λ later. Ok (here ++ later))) ≡ Ok steps → Leave (t ∷ ts) c trees steps
  first_leaves (Err e) is made = absurd cc
  first_leaves (Ok here) is made = later_leave here is (tasks_steps c ts (trees_after here trees)) refl made

all_leave : (ts : List Task) → AllByRecursion MayBeWritten ts → (c : CallRef) → LeaveAll ts c
all_leave [] may c trees all s steps made =
    let same : [] ≡ steps = cc in
    subst (Leave [] c trees) same (record { doable = none trees; leave = effects.none (elements_in c trees) })
all_leave (t ∷ ts) may c trees all s steps made = first_leaves t may.0 ts c (all_leave ts may.1 c) trees all s steps (task_steps t c (elements_in c trees)) refl made

pub steps-leave : StepsLeave
steps-leave ts may c trees all s steps made = (all_leave ts may c trees all s steps made).leave
