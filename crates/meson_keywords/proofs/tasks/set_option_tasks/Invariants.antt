use Rattle.meson_keywords.proofs.Words.{drop, each_made, set_option_entry, TasksSoFar}
use Rattle.meson_keywords.proofs.tasks.set_option_tasks.Given as goal

abbrev pub invariant-loop-i : goal.invariant-loop-i
invariant-loop-i l = TasksSoFar (each_made set_option_entry l.pairs) (each_made set_option_entry (drop l.i l.pairs)) l.tasks.items
