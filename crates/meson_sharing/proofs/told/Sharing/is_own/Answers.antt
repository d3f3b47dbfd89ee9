use Rattle.std.proofs.Common.{sym, ◌∙◌}
use Rattle.meson_following.specs.CodeFollowing.{followed_project}
use Rattle.meson_sharing.proofs.JointlyOwn.{each_own}
use Rattle.meson_sharing.proofs.Sharing.{one_of}
use Rattle.meson_sharing.proofs.told.Sharing.is_own.Goals as goal

pub returns-then-branch-clause-is : goal.returns-then-branch-clause-is
returns-then-branch-clause-is c =
    let s = c.args.self.now in
    let followed = s.followed.now in
    let maker = c.args.maker.now in
    sym (each_own (followed_project s.follower) followed s.ways.now maker (one_of followed maker (sym c.is_one_of.ensures ∙ c.if-is_one_of.true))
    (sym c.in_ok-are_own.ensures.are ∙ c.if-branch.true))
