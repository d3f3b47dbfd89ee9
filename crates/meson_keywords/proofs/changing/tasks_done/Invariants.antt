use Rattle.meson_keywords.proofs.Words.{List, into_iter_items, Loaded, plain_trees, Restores, so_far, tasks_steps, Task, TasksAre}
use Rattle.meson_keywords.proofs.TasksLeft.{TasksLeft}
use Rattle.meson_keywords.proofs.changing.tasks_done.Given as goal

abbrev pub invariant-loop-task : goal.invariant-loop-task
invariant-loop-task l = record {
  left : (ts : List Task) → TasksAre l.fn.tasks.items ts → TasksLeft (so_far l.fn.work) l.call (tasks_steps l.call ts (plain_trees (so_far l.fn.work))) (into_iter_items l.task-iterator) l.work;
  restores : (first : Loaded) → Restores l.fn.work first → Restores l.work first;
}
