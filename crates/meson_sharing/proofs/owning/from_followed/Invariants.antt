use Rattle.std.proofs.Common.{◌≡◌, ◌-◌, length}
use Rattle.meson_following.specs.CodeFollowing.{followed_project}
use Rattle.meson_sharing.specs.Sharing.{from_followed, with_takers_of_takers}
use Rattle.meson_sharing.proofs.owning.from_followed.Given as goal

abbrev pub invariant-loop : goal.invariant-loop
invariant-loop l =
    let p = followed_project l.follower in
    with_takers_of_takers p l.all (length l.all - l.counter) l.makers.items ≡ from_followed p l.all l.maker
