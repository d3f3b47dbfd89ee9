use Rattle.std.specs.Prelude.{Bool, not, ◌&&◌}
use Rattle.meson_calls.specs.declared.call.CallRef.{CallRef}
use Rattle.meson_following.specs.CodeFollowing.{followed_project}
use Rattle.meson_following.specs.Following.{one_of_places}
use Rattle.meson_sharing.specs.Sharing.{takes_at}
use Rattle.meson_sharing.proofs.TakerLists.{value_turned}
use Rattle.meson_sharing.proofs.takers.takers_of.Goals as goal

pub loop-value-preserved : goal.loop-value-preserved
loop-value-preserved c =
    let test : CallRef → Bool = λ v. not (one_of_places c.args.makers.now v) && takes_at (followed_project c.args.follower.now) c.args.seen.now v in
    value_turned test c.args.all.now c.loop-value.value-index c.value-item.result c.loop-value-test.true c.value-item.is c.loop-value.takers.items c.keep_if.new.kept.items _
    c.in_ok-takes.takes c.in_ok-takes.ensures c.in_ok-keep_if.ensures c.loop-value.invariant
