use Rattle.meson_following.specs.CodeMakers.{maker_view}
use Rattle.meson_following.proofs.MakerLists.{copied}
use Rattle.meson_following.proofs.makers.copy_all.Goals as goal

pub loop-maker-preserved : goal.loop-maker-preserved
loop-maker-preserved c =
    copied maker_view c.args.makers.now c.loop-maker.all.items c.push.new.self.items c.loop-maker.maker-index c.maker-item.result c.in_ok-copy.field-0 c.loop-maker-test.true
    c.in_ok-push.ensures.items c.in_ok-copy.ensures c.maker-item.is c.loop-maker.invariant
