use Rattle.meson_keywords.proofs.Words.{drop, each_made, delete_option_entry, TasksSoFar}
use Rattle.meson_keywords.proofs.tasks.delete_option_tasks.Given as goal

abbrev pub invariant-loop-i : goal.invariant-loop-i
invariant-loop-i l = TasksSoFar (each_made delete_option_entry l.names) (each_made delete_option_entry (drop l.i l.names)) l.tasks.items
