use Rattle.meson_calls.proofs.Words.{◌≡◌, take}
use Rattle.meson_calls.proofs.loading.copy_trees.Given as goal

abbrev pub invariant-loop-i : goal.invariant-loop-i
invariant-loop-i l = l.copies.items ≡ take l.i l.trees
