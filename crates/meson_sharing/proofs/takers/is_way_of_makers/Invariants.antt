use Rattle.std.proofs.Common.{◌≡◌, drop}
use Rattle.meson_following.specs.CodeFollowing.{followed_project}
use Rattle.meson_sharing.specs.Sharing.{is_way_of_makers}
use Rattle.meson_sharing.proofs.takers.is_way_of_makers.Given as goal

abbrev pub invariant-loop-maker : goal.invariant-loop-maker
invariant-loop-maker l = is_way_of_makers (followed_project l.follower) (drop l.maker-index l.makers) l.place ≡ is_way_of_makers (followed_project l.follower) l.makers l.place
