use Rattle.meson_keywords.proofs.Words.{◌∙◌, sym, subst, ◌≢◌, into_iter_items, nil_from_length, err_from_is_err_and, OutOfMemory, MayNotBeDone, plain_trees}
use Rattle.meson_keywords.proofs.Words.{so_far, refused_anyway, tasks_steps, TasksAre}
use Rattle.meson_keywords.proofs.TasksLeft.{TasksLeft, next_task, task_refused, tasks_first, tasks_more, whole_done}
use Rattle.meson_keywords.proofs.changing.tasks_done.Goals as goal

pub loop-task-init : goal.loop-task-init
loop-task-init c = record {
  left = λ ts are.
      tasks_first c.args.work.now c.requires.fresh c.args.call.now c.requires.stands (into_iter_items c.into_iter-task-iterator.result) ts
      (subst (λ cs. TasksAre cs ts) (sym c.into_iter-task-iterator.ensures.into_iter_gives.0) are);
  restores = λ first r. r;
}

pub do_task-requires : goal.do_task-requires
do_task-requires c =
    let old = so_far c.args.work.now in
    let call = c.args.call.now in
    let w = c.loop-task.work in
    let ts = c.requires.tasks.0 in
    let whole = tasks_steps call ts (plain_trees old) in
    let more = into_iter_items c.next.new.self in
    let u = subst (λ cs. TasksLeft old call whole cs w) c.in-Some.ensures.steps.0 (c.loop-task.invariant.left ts c.requires.tasks.1) in
    (old, next_task old call whole c.in-Some.task more w u)

pub loop-task-preserved : goal.loop-task-preserved
loop-task-preserved c = record {
  left = λ ts are.
      let old = so_far c.args.work.now in
      let call = c.args.call.now in
      let w = c.loop-task.work in
      let whole = tasks_steps call ts (plain_trees old) in
      let more = into_iter_items c.next.new.self in
      let u = subst (λ cs. TasksLeft old call whole cs w) c.in-Some.ensures.steps.0 (c.loop-task.invariant.left ts are) in
      tasks_more old call whole c.in-Some.task more w u c.do_task.new.work (c.in_ok-do_task.ensures.done old);
  restores = λ first r. c.in_ok-do_task.ensures.restores first (c.loop-task.invariant.restores first r);
}

pub returns-in_err-do_task-clause-restores : goal.returns-in_err-do_task-clause-restores
returns-in_err-do_task-clause-restores c = λ first r. c.in_err-do_task.ensures.restores first (c.loop-task.invariant.restores first r)

pub returns-in_err-do_task-clause-refused : goal.returns-in_err-do_task-clause-refused
returns-in_err-do_task-clause-refused c = λ ts are.
    let error = err_from_is_err_and c.from_residual.result c.from_residual.ensures.1 in
    rw (error.1, error.2) (λ other.
    let old = so_far c.args.work.now in
    let call = c.args.call.now in
    let w = c.loop-task.work in
    let whole = tasks_steps call ts (plain_trees old) in
    let more = into_iter_items c.next.new.self in
    let u = subst (λ cs. TasksLeft old call whole cs w) c.in-Some.ensures.steps.0 (c.loop-task.invariant.left ts are) in
    task_refused old call whole c.in-Some.task more w u c.in_err-do_task.field-0.0 (λ before t b is may. c.in_err-do_task.ensures.refused old before t b is may other))

pub returns-clause-done : goal.returns-clause-done
returns-clause-done c = λ ts are.
    let old = so_far c.args.work.now in
    let call = c.args.call.now in
    let w = c.loop-task.work in
    let whole = tasks_steps call ts (plain_trees old) in
    let left = nil_from_length (into_iter_items c.loop-task.task-iterator) (sym c.loop-task.task-iterator.rest.ok.0 ∙ c.in-None.ensures.steps.0) in
    let u = subst (λ cs. TasksLeft old call whole cs w) left (c.loop-task.invariant.left ts are) in
    c.within_limits.ensures.done old whole u.before (whole_done old call whole w u) u.between.reached

pub returns-clause-refused : goal.returns-clause-refused
returns-clause-refused c = λ ts are.
    let old = so_far c.args.work.now in
    let call = c.args.call.now in
    let w = c.loop-task.work in
    let whole = tasks_steps call ts (plain_trees old) in
    let left = nil_from_length (into_iter_items c.loop-task.task-iterator) (sym c.loop-task.task-iterator.rest.ok.0 ∙ c.in-None.ensures.steps.0) in
    let u = subst (λ cs. TasksLeft old call whole cs w) left (c.loop-task.invariant.left ts are) in
    refused_anyway (MayNotBeDone old whole) (λ e. e ≢ OutOfMemory) c.within_limits.result
    (c.within_limits.ensures.refused old whole u.before (whole_done old call whole w u) u.between.reached)
