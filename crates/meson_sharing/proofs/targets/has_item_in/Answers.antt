use Rattle.std.proofs.Common.{◌∙◌, sym}
use Rattle.meson_following.specs.CodeFollowing.{mark_view}
use Rattle.meson_following.proofs.MakerLists.{found, none_found, passed}
use Rattle.meson_sharing.specs.Sharing.{is_item_in}
use Rattle.meson_sharing.proofs.targets.has_item_in.Goals as goal

pub returns-then-is_item_in : goal.returns-then-is_item_in
returns-then-is_item_in c =
    found (is_item_in c.args.maker.now) mark_view c.args.marks.now c.loop-mark.mark-index c.mark-item.result _ c.loop-mark-test.true c.mark-item.is
    (sym c.is_item_in.ensures ∙ c.if-is_item_in.true) c.loop-mark.invariant

pub loop-mark-preserved : goal.loop-mark-preserved
loop-mark-preserved c =
    passed (is_item_in c.args.maker.now) mark_view c.args.marks.now c.loop-mark.mark-index c.mark-item.result _ c.loop-mark-test.true c.mark-item.is
    (sym c.is_item_in.ensures ∙ c.if-is_item_in.false) c.loop-mark.invariant

pub returns : goal.returns
returns c =
    none_found (is_item_in c.args.maker.now) mark_view c.args.marks.now c.loop-mark.mark-index _ c.loop-mark-test.false c.loop-mark.invariant
