use Rattle.std.proofs.Common.{◌≤◌, length, ap, sym, ◌∙◌, arith}
use Rattle.meson_following.specs.CodeFollowing.{followed_project}
use Rattle.meson_following.specs.Following.{one_of_places}
use Rattle.meson_sharing.proofs.UsesAround.{makes_use, no_use}
use Rattle.meson_sharing.proofs.uses.is_use.Goals as goal

pub returns-then-is_one_of : goal.returns-then-is_one_of
returns-then-is_one_of c =
    let p = followed_project c.args.follower.now in
    let q = c.args.place.now in
    sym (makes_use p q c.in_ok-around.around
    (ap (λ us. one_of_places us q) (sym (c.as_slice.ensures.value ∙ c.in_ok-uses.ensures)) ∙ sym c.is_one_of.ensures ∙ c.if-is_one_of.true))

pub returns : goal.returns
returns c =
    let p = followed_project c.args.follower.now in
    let q = c.args.place.now in
    let past : length q.path.steps ≤ c.loop-n.n = let e = c.loop-n-test.false in omega (arith, e, ap length c.get-steps.ensures) in
    no_use p q c.loop-n.n past c.loop-n.invariant
