use Rattle.meson_steps.proofs.Words.{◌≡◌, length, MayPutBack, put_back}
use Rattle.meson_steps.proofs.journal.put_back.Given as goal

abbrev pub invariant-loop-last : goal.invariant-loop-last
invariant-loop-last l = record {
  may : MayPutBack l.left.items l.trees.items;
  gives : put_back l.left.items l.trees.items ≡ put_back l.initial.left.items l.initial.trees.items;
}

abbrev pub decreases-loop-last : goal.decreases-loop-last
decreases-loop-last l = length l.left.items
