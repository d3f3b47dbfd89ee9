use Rattle.meson_following.specs.CodeFollowing.{followed_project}
use Rattle.meson_sharing.specs.CodeUses.{NoneBefore}
use Rattle.meson_sharing.proofs.uses.is_use.Given as goal

abbrev pub invariant-loop-n : goal.invariant-loop-n
invariant-loop-n l = NoneBefore (followed_project l.follower) l.place l.n
