use Rattle.std.proofs.Common.{◌≡◌, ◌++◌, drop, flat_map, map}
use Rattle.meson_following.specs.CodeFollowing.{followed_project}
use Rattle.meson_following.specs.Reads.{reads_of_variable}
use Rattle.meson_sharing.proofs.owning.reads_of.Given as goal

abbrev pub invariant-loop-i : goal.invariant-loop-i
invariant-loop-i l =
    let p = followed_project l.follower in
    l.reads.items ++ flat_map (reads_of_variable p l.makers) (map (λ x. x.now) (drop l.i l.names.items))
    ≡ flat_map (reads_of_variable p l.makers) (map (λ x. x.now) l.names.items)
