use Rattle.std.proofs.Common.{map}
use Rattle.meson_following.proofs.TakenTurns.{taken_all}
use Rattle.std.proofs.Common.{refl}
use Rattle.meson_sharing.specs.CodeTargets.{sharing_name, sharing_names, target_view}
use Rattle.meson_sharing.proofs.OwnMakers.{chosen_turn}
use Rattle.meson_sharing.proofs.targets.sharing_names.Goals as goal

pub loop-target-preserved : goal.loop-target-preserved
loop-target-preserved c =
    chosen_turn (sharing_name c.args.call.now c.args.maker.now) target_view c.args.targets.now c.loop-target.target-index c.target-item.result c.target-item.result
    c.loop-target.names.items c.take_name.new.names.items _ c.loop-target-test.true c.target-item.is c.in_ok-take_name.ensures c.loop-target.invariant

pub returns : goal.returns
returns c =
    taken_all (λ ts. sharing_names c.args.call.now c.args.maker.now (map target_view ts)) c.args.targets.now c.loop-target.target-index c.loop-target.names.items _ refl
    c.loop-target-test.false c.loop-target.invariant
