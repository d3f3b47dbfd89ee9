use Rattle.std.proofs.Common.{◌∙◌, ◌+◌, ◌*◌, ap, arith}
use Rattle.meson_lex.proofs.Digits.{OneMore, one_more}
use Rattle.meson_lex.proofs.escapes.digits_value.Goals as goal
use Rattle.meson_lex.proofs.escapes.digits_value.Goals.{In-loop-b}

more : (c : In-loop-b) → OneMore c.args.base c.loop-b.value c.args.digits.now c.loop-b.b-index
more c = one_more c.args.base c.loop-b.value c.args.digits.now c.loop-b.b-index c.requires.small c.requires.few c.requires.each c.loop-b-test.true c.loop-b.invariant

pub overflow_mul-value : goal.overflow_mul-value
overflow_mul-value c = let m = more c in omega (arith, m.fits_product)

pub overflow_add-value : goal.overflow_add-value
overflow_add-value c = let m = more (goal.at.overflow_add-value c).In-loop-b in omega (arith, m.fits, c.digit_value.ensures)

pub loop-b-preserved : goal.loop-b-preserved
loop-b-preserved c =
    let m = more (goal.at.loop-b-preserved c).In-loop-b in
    ap (λ d. c.loop-b.value * c.args.base + d) c.digit_value.ensures ∙ m.is
