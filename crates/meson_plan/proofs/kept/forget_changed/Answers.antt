use Rattle.std.proofs.Common.{◌≤◌, length, subst, take_all, arith}
use Rattle.meson_plan.specs.inside.Kept.{StayKept}
use Rattle.meson_plan.proofs.kept.forget_changed.Goals as goal

pub returns : goal.returns
returns c =
    let past : length c.args.splices.now ≤ c.loop-i.i = omega (arith, c.loop-i-test.false) in
    subst (StayKept c.args.kept.now.items c.loop-i.kept.items c.args.files.now) (take_all c.loop-i.i c.args.splices.now past) c.loop-i.invariant
