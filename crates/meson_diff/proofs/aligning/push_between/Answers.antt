use Rattle.meson_diff.proofs.Joins.{new_rest, old_rest}
use Rattle.meson_diff.proofs.Nearest.{nearest_last}
use Rattle.meson_diff.proofs.aligning.push_between.Goals as goal

pub returns-clause-of_old : goal.returns-clause-of_old
returns-clause-of_old c =
    old_rest c.loop-at.entries.items c.push_all.new.entries.items c.push_all-2.new.entries.items c.loop-at.old_left.now c.loop-at.new_left.now _
    c.in_ok-push_all.ensures c.in_ok-push_all-2.ensures c.loop-at.invariant.of_old

pub returns-clause-of_new : goal.returns-clause-of_new
returns-clause-of_new c =
    new_rest c.loop-at.entries.items c.push_all.new.entries.items c.push_all-2.new.entries.items c.loop-at.old_left.now c.loop-at.new_left.now _
    c.in_ok-push_all.ensures c.in_ok-push_all-2.ensures c.loop-at.invariant.of_new

pub returns-clause-nearest : goal.returns-clause-nearest
returns-clause-nearest c = λ start.
    nearest_last c.loop-at.entries.items c.push_all.new.entries.items c.push_all-2.new.entries.items c.loop-at.old_left.now c.loop-at.new_left.now
    c.in_ok-push_all.ensures c.in_ok-push_all-2.ensures c.in_default.ensures.none (c.loop-at.invariant.nearest start)
