use Rattle.std.proofs.Common.{sym, ◌∙◌}
use Rattle.std.proofs.lemmas.List.{take_rest}
use Rattle.meson_following.proofs.HeldTexts.{text_passed}
use Rattle.meson_following.proofs.reads.holds_text.Goals as goal

pub loop-i-preserved : goal.loop-i-preserved
loop-i-preserved c =
    text_passed c.args.part.now c.args.text.now c.loop-i.i _ _ (take_rest c.args.text.now c.loop-i.i) c.loop-i-test.true
    (sym c.starts_with.ensures.value ∙ c.if-starts_with.false) c.loop-i.invariant
