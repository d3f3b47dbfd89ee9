use Rattle.std.proofs.Common.{◌≡◌, subst, ◌∙◌}
use Rattle.std.specs.Prelude.{IfOk, false}
use Rattle.std.specs.List.{list_all}
use Rattle.meson_following.specs.CodeFollowing.{followed_project}
use Rattle.meson_sharing.specs.CodeOwning.{is_read_by}
use Rattle.meson_sharing.proofs.owning.are_closed_by.Goals as goal

pub returns : goal.returns
returns c =
    let p = followed_project c.args.follower.now in
    subst (λ reads. IfOk c.are_read.result (λ are. are ≡ list_all (is_read_by p false c.args.ways.now c.args.followed.now) reads))
    (c.as_slice.ensures.value ∙ c.in_ok-reads.ensures) c.are_read.ensures
