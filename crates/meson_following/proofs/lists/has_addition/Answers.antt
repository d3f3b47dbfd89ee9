use Rattle.meson_following.specs.CodeMakers.{maker_view}
use Rattle.meson_following.proofs.MakerLists.{found, none_found, passed}
use Rattle.meson_following.proofs.lists.has_addition.Goals as goal

pub returns-then-maker : goal.returns-then-maker
returns-then-maker c =
    found (λ m. m.adds) maker_view c.args.makers.now c.loop-maker.maker-index c.maker-item.result _ c.loop-maker-test.true c.maker-item.is c.if-maker.true c.loop-maker.invariant

pub loop-maker-preserved : goal.loop-maker-preserved
loop-maker-preserved c =
    passed (λ m. m.adds) maker_view c.args.makers.now c.loop-maker.maker-index c.maker-item.result _ c.loop-maker-test.true c.maker-item.is c.if-maker.false c.loop-maker.invariant

pub returns : goal.returns
returns c = none_found (λ m. m.adds) maker_view c.args.makers.now c.loop-maker.maker-index _ c.loop-maker-test.false c.loop-maker.invariant
