use Rattle.std.proofs.Common.{◌∙◌, sym}
use Rattle.std.specs.Prelude.{◌&&◌}
use Rattle.meson_following.specs.CodeMakers.{maker_view}
use Rattle.meson_following.specs.Makers.{are_same}
use Rattle.meson_following.proofs.MakerLists.{found, none_found, passed}
use Rattle.meson_following.proofs.makers.is_sure_among.Goals as goal

pub returns-then-are_same_and_sure : goal.returns-then-are_same_and_sure
returns-then-are_same_and_sure c =
    found (λ m. are_same m (maker_view c.args.maker.now) && m.sure) maker_view c.args.makers.now c.loop-other.other-index c.other-item.result _ c.loop-other-test.true c.other-item.is (sym c.are_same_and_sure.ensures ∙ c.if-are_same_and_sure.true)
    c.loop-other.invariant

pub loop-other-preserved : goal.loop-other-preserved
loop-other-preserved c =
    passed (λ m. are_same m (maker_view c.args.maker.now) && m.sure) maker_view c.args.makers.now c.loop-other.other-index c.other-item.result _ c.loop-other-test.true c.other-item.is (sym c.are_same_and_sure.ensures ∙ c.if-are_same_and_sure.false)
    c.loop-other.invariant

pub returns : goal.returns
returns c = none_found (λ m. are_same m (maker_view c.args.maker.now) && m.sure) maker_view c.args.makers.now c.loop-other.other-index _ c.loop-other-test.false c.loop-other.invariant
