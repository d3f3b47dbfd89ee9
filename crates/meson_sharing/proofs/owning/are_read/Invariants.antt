use Rattle.std.proofs.Common.{◌≡◌, drop}
use Rattle.std.specs.List.{list_all}
use Rattle.meson_following.specs.CodeFollowing.{followed_project}
use Rattle.meson_sharing.specs.CodeOwning.{is_read_by}
use Rattle.meson_sharing.proofs.owning.are_read.Given as goal

abbrev pub invariant-loop-place : goal.invariant-loop-place
invariant-loop-place l =
    let test = is_read_by (followed_project l.follower) l.with_uses l.ways l.makers in list_all test (drop l.place-index l.places) ≡ list_all test l.places
