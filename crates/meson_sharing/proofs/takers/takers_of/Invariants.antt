use Rattle.std.proofs.Common.{◌≡◌, ◌++◌, drop}
use Rattle.meson_following.specs.CodeFollowing.{followed_project}
use Rattle.meson_sharing.specs.Sharing.{takers_of}
use Rattle.meson_sharing.proofs.takers.takers_of.Given as goal

abbrev pub invariant-loop-value : goal.invariant-loop-value
invariant-loop-value l =
    l.takers.items ++ takers_of (followed_project l.follower) (drop l.value-index l.all) l.makers l.seen ≡ takers_of (followed_project l.follower) l.all l.makers l.seen
