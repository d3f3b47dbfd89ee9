use Rattle.std.proofs.Common.{◌∙◌, sym}
use Rattle.meson_following.specs.CodeMakers.{maker_view}
use Rattle.meson_following.specs.Following.{one_of_places}
use Rattle.meson_following.proofs.MakerLists.{found, none_found, passed}
use Rattle.meson_following.proofs.walk.is_maker_at.Goals as goal

pub returns-then-is_one_of : goal.returns-then-is_one_of
returns-then-is_one_of c =
    found (λ m. one_of_places c.args.places.now m.value.place) maker_view c.args.makers.now c.loop-maker.maker-index c.maker-item.result _ c.loop-maker-test.true c.maker-item.is (sym c.is_one_of.ensures ∙ c.if-is_one_of.true)
    c.loop-maker.invariant

pub loop-maker-preserved : goal.loop-maker-preserved
loop-maker-preserved c =
    passed (λ m. one_of_places c.args.places.now m.value.place) maker_view c.args.makers.now c.loop-maker.maker-index c.maker-item.result _ c.loop-maker-test.true c.maker-item.is (sym c.is_one_of.ensures ∙ c.if-is_one_of.false)
    c.loop-maker.invariant

pub returns : goal.returns
returns c =
    none_found (λ m. one_of_places c.args.places.now m.value.place) maker_view c.args.makers.now c.loop-maker.maker-index _ c.loop-maker-test.false c.loop-maker.invariant
