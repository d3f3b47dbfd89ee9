use Rattle.meson_keywords.proofs.Words.{drop, each_made, delete_entry, TasksSoFar}
use Rattle.meson_keywords.proofs.tasks.delete_tasks.Given as goal

abbrev pub invariant-loop-i : goal.invariant-loop-i
invariant-loop-i l = TasksSoFar (each_made (delete_entry l.role) l.keys) (each_made (delete_entry l.role) (drop l.i l.keys)) l.tasks.items
